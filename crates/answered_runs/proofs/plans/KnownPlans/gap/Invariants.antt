use Rattle.std.proofs.Common.{take}
use Rattle.answered_runs.specs.Answered.{runs_in}
use Rattle.answered_runs.specs.WholeList.{AreAllTold}
use Rattle.answered_runs.proofs.plans.KnownPlans.gap.Given as goal

abbrev pub invariant-loop-number : goal.invariant-loop-number
invariant-loop-number l = AreAllTold (runs_in l.self.answered) (take l.number l.self.list.plans)
