use Rattle.std.proofs.Common.{rules}
use Rattle.file_replace.proofs.replace.ReplaceTarget.twin.Goals as goal

pub returns : goal.returns
returns c = search rules
