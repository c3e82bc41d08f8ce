use Rattle.maildir_target.proofs.Flawed.{link_first_is_torn}
use Rattle.maildir_target.proofs.laws.link_first_is_torn.Goals as goal

pub returns : goal.returns
returns c = link_first_is_torn
