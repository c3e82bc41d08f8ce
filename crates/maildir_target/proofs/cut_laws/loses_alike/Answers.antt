use Rattle.maildir_target.proofs.CutAlike.{delivery_alike}
use Rattle.maildir_target.proofs.cut_laws.loses_alike.Goals as goal

pub returns : goal.returns
returns c = delivery_alike
