use Rattle.grown_plans.specs.GrownPlans.{grown, run_of_plan}
use Rattle.grown_plans.proofs.Members.{all_of, all_weaker}
use Rattle.grown_plans.proofs.Onward.{grown_can, no_seed_needed}
use Rattle.grown_plans.proofs.PlanRuns.{plan_path, plan_judged}
use Rattle.campaign_core.proofs.PromisesLemmas.AsPaths.{behaviour_of}
use Rattle.campaign_core.proofs.promises.laws.a_plan_plays_its_behaviour.Goals as goal

pub returns-clause-behaves : goal.returns-clause-behaves
returns-clause-behaves c t l d = all_of _ (λ plan. behaviour_of t (run_of_plan t plan) (plan_path t plan)) (grown t d)

pub returns-clause-same : goal.returns-clause-same
returns-clause-same c = no_seed_needed

pub returns-clause-verdict : goal.returns-clause-verdict
returns-clause-verdict c t l d = all_weaker _ _ (λ plan can seed stream. plan_judged t l plan can seed stream) (grown t d) (grown_can t l d)
