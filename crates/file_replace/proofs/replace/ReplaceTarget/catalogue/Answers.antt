use Rattle.std.proofs.Common.{rules}
use Rattle.file_replace.proofs.replace.ReplaceTarget.catalogue.Goals as goal

pub returns : goal.returns
returns c = search rules
