use Rattle.file_replace.proofs.CutAlike.{replacement_alike}
use Rattle.file_replace.proofs.cut_laws.is_no_weaker.Goals as goal

pub returns : goal.returns
returns c variant workload = c.nothing_is_weaker.ensures.same variant workload (replacement_alike variant workload)
