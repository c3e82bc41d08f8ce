use Rattle.grown_plans.proofs.Onward.{no_seed_needed}
use Rattle.grown_plans.proofs.laws.each_plan_needs_no_seed.Goals as goal

pub returns : goal.returns
returns c = no_seed_needed
