use Rattle.commit_target.proofs.CutAlike.{commit_alike}
use Rattle.commit_target.proofs.cut_laws.is_no_weaker.Goals as goal

pub returns : goal.returns
returns c variant workload = c.nothing_is_weaker.ensures.same variant workload (commit_alike variant workload)
