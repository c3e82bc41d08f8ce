use Rattle.commit_target.proofs.Flawed.{lazy_prepare_is_split}
use Rattle.commit_target.proofs.laws.lazy_prepare_is_split.Goals as goal

pub returns : goal.returns
returns c = lazy_prepare_is_split
