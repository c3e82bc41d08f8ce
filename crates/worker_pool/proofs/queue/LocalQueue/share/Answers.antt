use Rattle.worker_pool.proofs.Keeps.{forks}
use Rattle.worker_pool.proofs.queue.LocalQueue.share.Goals as goal

pub another-pass-requires : goal.another-pass-requires
another-pass-requires c = forks _ _ c.args.self.now.right
