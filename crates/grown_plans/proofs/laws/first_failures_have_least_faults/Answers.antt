use Rattle.grown_plans.proofs.Cases.{is_least}
use Rattle.grown_plans.proofs.laws.first_failures_have_least_faults.Goals as goal

pub returns : goal.returns
returns c = is_least
