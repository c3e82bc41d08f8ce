use Rattle.std.proofs.Common.{arith}
use Rattle.commit_target.proofs.Sets.{one_told}
use Rattle.commit_target.proofs.marks.set_of.Goals as goal

pub loop-transaction-preserved : goal.loop-transaction-preserved
loop-transaction-preserved c =
    one_told c.args.transactions.now c.args.first c.loop-transaction.transaction-index _ _ (omega arith) c.loop-transaction.invariant c.only-set.ensures
