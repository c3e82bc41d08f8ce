use Rattle.std.proofs.lemmas.List.Elements.{All-push}
use Rattle.worker_pool.specs.inside.Ring.{IsSettled}
use Rattle.worker_pool.proofs.ring.settle_all.Goals as goal

pub loop-queue-preserved : goal.loop-queue-preserved
loop-queue-preserved c = record { settled = All-push IsSettled c.loop-queue.yielded c.in-Some.queue c.loop-queue.invariant.settled c.settle_one.ensures }
