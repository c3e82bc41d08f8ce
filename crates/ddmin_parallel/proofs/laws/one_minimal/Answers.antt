use Rattle.ddmin_parallel.proofs.Minimal.{minimal}
use Rattle.ddmin_parallel.proofs.laws.one_minimal.Goals as goal

pub returns : goal.returns
returns c = minimal
