use Rattle.grown_runs.proofs.KnownLemmas.Ends.{runs_each_once}
use Rattle.grown_runs.proofs.known.laws.each_plan_is_to_be_run_once.Goals as goal

pub returns : goal.returns
returns c = runs_each_once
