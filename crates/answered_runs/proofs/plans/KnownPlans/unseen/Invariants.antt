use Rattle.std.proofs.Common.{◌≡◌, ◌≤◌, take}
use Rattle.answered_runs.specs.Answered.{runs_in}
use Rattle.answered_runs.specs.WholeList.{unseen_count}
use Rattle.answered_runs.proofs.plans.KnownPlans.unseen.Given as goal

abbrev pub invariant-loop-number : goal.invariant-loop-number
invariant-loop-number l = record {
  count : l.unseen ≡ unseen_count (runs_in l.self.answered) (take l.number l.self.list.plans);
  few : l.unseen ≤ l.number;
}
