use Rattle.std.proofs.Common.{rules}
use Rattle.maildir_target.proofs.maildir.MaildirTarget.code_name.Goals as goal

pub returns-then-code-eq-TORN : goal.returns-then-code-eq-TORN
returns-then-code-eq-TORN c = search rules
