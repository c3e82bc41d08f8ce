use Rattle.grown_plans.proofs.AskedSites.{grows_by_asked}
use Rattle.grown_plans.proofs.laws.each_plan_grows_by_what_was_asked.Goals as goal

pub returns : goal.returns
returns c = grows_by_asked
