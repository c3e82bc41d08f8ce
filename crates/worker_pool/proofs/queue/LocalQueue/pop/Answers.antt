use Rattle.worker_pool.proofs.Keeps.{pops_one, finds}
use Rattle.worker_pool.proofs.queue.LocalQueue.pop.Goals as goal

pub pop_as-requires-clause-fifo : goal.pop_as-requires-clause-fifo
pop_as-requires-clause-fifo c = λ _. pops_one _ _ c.args.self.now.right

pub pop_as-requires-clause-empty : goal.pop_as-requires-clause-empty
pop_as-requires-clause-empty c = finds _ _ c.args.self.now.right
