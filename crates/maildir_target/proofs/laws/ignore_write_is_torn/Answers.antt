use Rattle.maildir_target.proofs.Flawed.{ignore_write_is_torn}
use Rattle.maildir_target.proofs.laws.ignore_write_is_torn.Goals as goal

pub returns : goal.returns
returns c = ignore_write_is_torn
