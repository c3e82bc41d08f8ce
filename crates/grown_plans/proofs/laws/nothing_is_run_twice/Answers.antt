use Rattle.grown_plans.proofs.Onward.{runs_nothing_twice}
use Rattle.grown_plans.proofs.laws.nothing_is_run_twice.Goals as goal

pub returns : goal.returns
returns c = runs_nothing_twice
