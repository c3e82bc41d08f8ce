use Rattle.action_eval.proofs.LeftFaults.{left_faults}
use Rattle.action_eval.proofs.laws.faults_left_by_tidying.Goals as goal

pub returns : goal.returns
returns c = left_faults
