use Rattle.std.proofs.Common.{rules}
use Rattle.commit_target.proofs.work.Transactions.participants.Goals as goal

pub returns-clause-count : goal.returns-clause-count
returns-clause-count c = search rules
