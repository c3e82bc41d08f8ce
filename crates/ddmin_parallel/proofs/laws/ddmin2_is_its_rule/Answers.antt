use Rattle.ddmin_parallel.proofs.Rounds.{ddmin2_is}
use Rattle.ddmin_parallel.proofs.laws.ddmin2_is_its_rule.Goals as goal

pub returns : goal.returns
returns c = ddmin2_is
