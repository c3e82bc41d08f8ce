use Rattle.std.proofs.Common.{rules}
use Rattle.file_replace.proofs.replace.ReplaceTarget.label.Goals as goal

pub returns-in-Sound : goal.returns-in-Sound
returns-in-Sound c = search rules
