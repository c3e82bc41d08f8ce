use Rattle.maildir_target.proofs.Numbers.{told_so}
use Rattle.maildir_target.proofs.name.names_are_told.Goals as goal

pub returns : goal.returns
returns c = told_so
