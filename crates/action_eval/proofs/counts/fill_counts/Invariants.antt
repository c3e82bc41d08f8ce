use Rattle.std.proofs.Common.{◌≡◌, ◌≤◌, ◌++◌, drop, length, [], vec_capacity}
use Rattle.action_eval.specs.inside.Session.{left_counts}
use Rattle.action_eval.proofs.counts.fill_counts.Given as goal

abbrev pub invariant-loop-entry : goal.invariant-loop-entry
invariant-loop-entry l = record {
  counts : l.left.items ++ left_counts [] (drop l.entry l.scenario) ≡ left_counts [] l.scenario;
  room : length (left_counts [] l.scenario) ≤ vec_capacity l.left;
}
