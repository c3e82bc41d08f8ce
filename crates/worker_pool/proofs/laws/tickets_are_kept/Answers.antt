use Rattle.worker_pool.proofs.Law.{law}
use Rattle.worker_pool.proofs.laws.tickets_are_kept.Goals as goal

pub returns : goal.returns
returns c = λ n steps of test. law test n steps of
