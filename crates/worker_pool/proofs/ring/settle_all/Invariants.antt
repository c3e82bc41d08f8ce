use Rattle.std.proofs.Common.{All}
use Rattle.worker_pool.specs.inside.Ring.{IsSettled}
use Rattle.worker_pool.proofs.ring.settle_all.Given as goal

abbrev pub invariant-loop-queue : goal.invariant-loop-queue
invariant-loop-queue l = record {
  settled : All IsSettled l.yielded;
}
