use Rattle.std.proofs.Common.{rules}
use Rattle.commit_target.proofs.commit.CommitTarget.label.Goals as goal

pub returns-in-EarlyEnd : goal.returns-in-EarlyEnd
returns-in-EarlyEnd c = search rules
