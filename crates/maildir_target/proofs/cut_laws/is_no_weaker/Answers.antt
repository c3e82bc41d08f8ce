use Rattle.maildir_target.proofs.CutAlike.{delivery_alike}
use Rattle.maildir_target.proofs.cut_laws.is_no_weaker.Goals as goal

pub returns : goal.returns
returns c variant messages = c.nothing_is_weaker.ensures.same variant messages (delivery_alike variant messages)
