use Rattle.grown_plans.proofs.FromThenOn.{tries_onward}
use Rattle.grown_plans.proofs.laws.faults_from_then_on_are_tried.Goals as goal

pub returns : goal.returns
returns c = tries_onward
