use Rattle.std.proofs.Common.{rules}
use Rattle.commit_target.proofs.commit.CommitTarget.code_name.Goals as goal

pub returns-then-code-eq-LOST : goal.returns-then-code-eq-LOST
returns-then-code-eq-LOST c = search rules
