use Rattle.ddmin_parallel.proofs.CoreLemmas.{next_gives}
use Rattle.ddmin_parallel.proofs.laws.requests_are_open.Goals as goal

pub returns : goal.returns
returns c = next_gives
