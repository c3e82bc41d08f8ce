use Rattle.std.proofs.Common.{rules}
use Rattle.file_replace.proofs.work.Replacements.new.Goals as goal

pub returns : goal.returns
returns c = search rules
