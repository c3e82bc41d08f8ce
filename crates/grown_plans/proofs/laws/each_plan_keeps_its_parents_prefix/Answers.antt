use Rattle.grown_plans.proofs.Cases.{keeps_prefix}
use Rattle.grown_plans.proofs.laws.each_plan_keeps_its_parents_prefix.Goals as goal

pub returns : goal.returns
returns c = keeps_prefix
