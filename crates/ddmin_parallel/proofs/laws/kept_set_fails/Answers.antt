use Rattle.ddmin_parallel.proofs.Minimal.{minimal}
use Rattle.ddmin_parallel.proofs.laws.kept_set_fails.Goals as goal

pub returns : goal.returns
returns c = λ test faults fails. (minimal test faults fails).fails
