use Rattle.std.proofs.Common.{◌<◌, take}
use Rattle.plan_gen.specs.LoopRuns.{times}
use Rattle.grown_plans.specs.AskedPoints.{AreCounts}
use Rattle.grown_plans.proofs.begun.count_up_to.Given as goal

abbrev pub invariant-loop-i : goal.invariant-loop-i
invariant-loop-i l = record {
  counts : AreCounts l.counts (take l.i l.asked);
  early : times l.fault.point (take l.i l.asked) < l.fault.hit;
}
