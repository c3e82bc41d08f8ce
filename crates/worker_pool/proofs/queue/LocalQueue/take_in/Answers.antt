use Rattle.worker_pool.proofs.Keeps.{merges}
use Rattle.worker_pool.proofs.queue.LocalQueue.take_in.Goals as goal

pub absorb-requires-clause-rule : goal.absorb-requires-clause-rule
absorb-requires-clause-rule c = merges _ _ _ _ c.args.self.now.right c.args.next.right
