use Rattle.std.proofs.Common.{◌≡◌, drop}
use Rattle.action_eval.specs.Answers.{texts}
use Rattle.answered_runs.specs.Rigged.{points_into}
use Rattle.answered_runs.proofs.rigged.push_points.Given as goal

abbrev pub invariant-loop-name : goal.invariant-loop-name
invariant-loop-name l = record {
  number : l.point ≡ l.name-index;
  leads : points_into l.scenario l.point (texts (drop l.name-index l.points)) l.rigs.items ≡ points_into l.scenario 0 (texts l.points) l.fn.rigs.items;
}
