use Rattle.maildir_target.proofs.Flawed.{append_tmp_is_torn}
use Rattle.maildir_target.proofs.laws.append_tmp_is_torn.Goals as goal

pub returns : goal.returns
returns c = append_tmp_is_torn
