use Rattle.commit_target.proofs.Flawed.{two_tries_is_split}
use Rattle.commit_target.proofs.laws.two_tries_is_split.Goals as goal

pub returns : goal.returns
returns c = two_tries_is_split
