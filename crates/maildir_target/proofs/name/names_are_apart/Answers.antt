use Rattle.maildir_target.proofs.Numbers.{apart}
use Rattle.maildir_target.proofs.name.names_are_apart.Goals as goal

pub returns : goal.returns
returns c = apart
