use Rattle.std.proofs.Common.{rules}
use Rattle.commit_target.proofs.logs.Logs.clear.Goals as goal

pub returns-clause-ok : goal.returns-clause-ok
returns-clause-ok c = search rules
