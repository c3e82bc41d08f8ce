use Rattle.worker_pool.proofs.Keeps.{puts}
use Rattle.worker_pool.proofs.queue.LocalQueue.deal.Goals as goal

pub push_as-requires-clause-pushes : goal.push_as-requires-clause-pushes
push_as-requires-clause-pushes c = puts _ _ _ c.args.self.now.right c.requires.alone
