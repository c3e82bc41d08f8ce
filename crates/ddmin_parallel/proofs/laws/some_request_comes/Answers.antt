use Rattle.ddmin_parallel.proofs.CoreLemmas.{none_open}
use Rattle.ddmin_parallel.proofs.laws.some_request_comes.Goals as goal

pub returns : goal.returns
returns c = none_open
