use Rattle.std.proofs.Common.{take}
use Rattle.grown_plans.specs.AskedPoints.{AreCounts}
use Rattle.grown_plans.proofs.begun.count_from.Given as goal

abbrev pub invariant-loop-i : goal.invariant-loop-i
invariant-loop-i l = AreCounts l.counts (take l.i l.asked)
