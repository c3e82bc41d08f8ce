use Rattle.commit_target.proofs.Flawed.{lazy_prepare_is_lost}
use Rattle.commit_target.proofs.laws.lazy_prepare_is_lost.Goals as goal

pub returns : goal.returns
returns c = lazy_prepare_is_lost
