use Rattle.ddmin_parallel.proofs.Kept.{nothing_kept}
use Rattle.ddmin_parallel.proofs.laws.failing_empty_set_keeps_nothing.Goals as goal

pub returns : goal.returns
returns c = nothing_kept
