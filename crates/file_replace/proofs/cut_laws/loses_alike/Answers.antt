use Rattle.file_replace.proofs.CutAlike.{replacement_alike}
use Rattle.file_replace.proofs.cut_laws.loses_alike.Goals as goal

pub returns : goal.returns
returns c = replacement_alike
