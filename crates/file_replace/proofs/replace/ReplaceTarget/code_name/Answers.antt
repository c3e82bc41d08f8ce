use Rattle.std.proofs.Common.{rules}
use Rattle.file_replace.proofs.replace.ReplaceTarget.code_name.Goals as goal

pub returns-then-code-eq-TORN : goal.returns-then-code-eq-TORN
returns-then-code-eq-TORN c = search rules
