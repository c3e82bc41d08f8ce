use Rattle.std.proofs.Common.{rules}
use Rattle.commit_target.proofs.logs.Logs.new.Goals as goal

pub returns : goal.returns
returns c = search rules
