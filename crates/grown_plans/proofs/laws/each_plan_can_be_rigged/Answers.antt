use Rattle.grown_plans.proofs.Rigged.{grown_can_be_rigged}
use Rattle.grown_plans.proofs.laws.each_plan_can_be_rigged.Goals as goal

pub returns : goal.returns
returns c = grown_can_be_rigged
