use Rattle.std.proofs.Common.{rules}
use Rattle.maildir_target.proofs.judge.differs.Goals as goal

pub returns-in-Some : goal.returns-in-Some
returns-in-Some c = search rules
