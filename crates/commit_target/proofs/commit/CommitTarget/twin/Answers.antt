use Rattle.std.proofs.Common.{rules}
use Rattle.commit_target.proofs.commit.CommitTarget.twin.Goals as goal

pub returns : goal.returns
returns c = search rules
