use Rattle.std.proofs.Common.{Some}
use Rattle.worker_pool.proofs.Below.{below_found}
use Rattle.worker_pool.proofs.finish.finish_turn.Goals as goal

pub perform_one-requires-clause-limit : goal.perform_one-requires-clause-limit
perform_one-requires-clause-limit g c κs within = below_found (Some c.in-Some.ticket) _ _ c.requires.left.below c.in-Some.ensures.among
