use Rattle.commit_target.specs.Judgement.{known, own}
use Rattle.commit_target.proofs.Noting.{restart_holds}
use Rattle.commit_target.proofs.judge.judge.Goals as goal

pub returns-clause-judged : goal.returns-clause-judged
returns-clause-judged c = λ es h. c.judgement.ensures (known es) (own es) (restart_holds _ _ es (c.restart.ensures _ es h))
