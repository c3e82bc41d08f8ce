use Rattle.worker_pool.specs.inside.Ring.{AreDealtBelow}
use Rattle.worker_pool.proofs.ring.dealt_queues.Given as goal

abbrev pub invariant-loop-number : goal.invariant-loop-number
invariant-loop-number l = AreDealtBelow l.n l.count l.number l.queues
