use Rattle.commit_target.proofs.Sets.{committed_is}
use Rattle.commit_target.proofs.judge.committed.Goals as goal

pub returns : goal.returns
returns c = λ first log records a b.
    committed_is first _ _ log records a b _ _ _ _ _ c.with-3.ensures c.with-4.ensures c.with-5.ensures c.with-5.type_inv c.with.ensures c.with-2.ensures c.with-2.type_inv
