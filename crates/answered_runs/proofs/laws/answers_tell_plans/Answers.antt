use Rattle.answered_runs.proofs.Runs.{agree}
use Rattle.answered_runs.proofs.laws.answers_tell_plans.Goals as goal

pub returns : goal.returns
returns c = agree
