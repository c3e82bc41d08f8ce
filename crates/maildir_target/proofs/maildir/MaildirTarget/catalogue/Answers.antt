use Rattle.std.proofs.Common.{rules}
use Rattle.maildir_target.proofs.maildir.MaildirTarget.catalogue.Goals as goal

pub returns : goal.returns
returns c = search rules
