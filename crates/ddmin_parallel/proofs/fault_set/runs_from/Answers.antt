use Rattle.ddmin_parallel.proofs.RunLemmas.{taken_longer, taken_apart}
use Rattle.ddmin_parallel.proofs.fault_set.runs_from.Goals as goal
use Rattle.ddmin_parallel.proofs.fault_set.runs_from.Goals.{in-Some, in-None+in_ok-push-in-None}

pub loop-fault-preserved : goal.loop-fault-preserved
loop-fault-preserved c = elim c.match-lengthened.branch [
  | in-Some w ↦ rw (w.runs-is, w.run-is)
      (taken_longer _ _ _ _ _ _ c.loop-fault-test.true c.loop-fault.invariant w.in-Some.ensures)
  | in-None+in_ok-push-in-None w ↦ rw (w.runs-is, w.run-is, w.in_ok-push-in-None.ensures.items)
      (taken_apart _ _ _ _ _ c.loop-fault-test.true c.loop-fault.invariant w.in-None.ensures)
]
