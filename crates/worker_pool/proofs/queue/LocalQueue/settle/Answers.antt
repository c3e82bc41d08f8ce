use Rattle.worker_pool.proofs.Keeps.{totals}
use Rattle.worker_pool.proofs.queue.LocalQueue.settle.Goals as goal

pub len_as-held-requires : goal.len_as-held-requires
len_as-held-requires c = totals _ _ c.args.self.now.right c.requires.right

pub returns : goal.returns
returns c = record { held = c.len_as-held.ensures.rule.0; whole = c.len_as-held.ensures.rule.2 }
