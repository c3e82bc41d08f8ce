use Rattle.std.proofs.Common.{rules}
use Rattle.maildir_target.proofs.maildir.MaildirTarget.label.Goals as goal

pub returns-in-Sound : goal.returns-in-Sound
returns-in-Sound c = search rules
