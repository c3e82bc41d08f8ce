use Rattle.grown_plans.proofs.Causes.{has_causes}
use Rattle.grown_plans.proofs.laws.each_failure_has_a_cause.Goals as goal

pub returns : goal.returns
returns c = has_causes
