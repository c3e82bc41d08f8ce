use Rattle.action_eval.specs.Answers.{given_of}
use Rattle.grown_plans.specs.Runs.{run}
use Rattle.grown_plans.proofs.PlayedRuns.{run_path, run_judged}
use Rattle.campaign_core.proofs.PromisesLemmas.AsPaths.{behaviour_of}
use Rattle.campaign_core.proofs.promises.laws.a_scenario_plays_a_behaviour.Goals as goal

pub returns-clause-behaves : goal.returns-clause-behaves
returns-clause-behaves c t scenario seed stream unpaused =
    let g = given_of scenario t.names seed stream t.limit in behaviour_of t (run t.asks g) (run_path t.asks g unpaused)

pub returns-clause-verdict : goal.returns-clause-verdict
returns-clause-verdict c t scenario seed stream unpaused = run_judged t.asks scenario t.names seed stream t.limit unpaused
