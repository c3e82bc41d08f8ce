use Rattle.commit_target.proofs.CutAlike.{commit_alike}
use Rattle.commit_target.proofs.cut_laws.loses_alike.Goals as goal

pub returns : goal.returns
returns c = commit_alike
