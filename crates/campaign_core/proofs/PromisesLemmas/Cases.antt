-- Each behaviour of a component is the run of a case, whose scenario is made of the plan that has the behaviour's faults.
use Rattle.std.proofs.Common.{◌≡◌, List, [], ap, sym, ◌∙◌, subst}
use Rattle.action_eval.specs.declared.rig.Rig.{Rig}
use Rattle.grown_plans.specs.Runs.{Met}
use Rattle.grown_plans.specs.GrownPlans.{Subject, rigs_of, scenario_of, run_of_plan}
use Rattle.grown_plans.specs.Promises.{IsLawful, IsOfKinds, FaultCase, run_in, verdict_in}
use Rattle.grown_plans.proofs.PlanRuns.{rigs_unpaused}
use Rattle.grown_plans.proofs.PlayedRuns.{run_judged}
use Rattle.grown_plans.proofs.Faults.{faults as faults_of}
use Rattle.grown_plans.proofs.Cases.{whole_run}
use Rattle.campaign_core.specs.promises.Behaviours.{IsBehaviourOfKinds, verdict_at_end}
use Rattle.campaign_core.proofs.PromisesLemmas.AsPaths.{path_of}

-- the plan whose run a behaviour is
abbrev pub plan_for : List Met → List Rig
plan_for hits = faults_of [] hits

pub plan_runs : (t : Subject) → IsLawful t → (hits : List Met) → IsBehaviourOfKinds t hits → run_of_plan t (plan_for hits) ≡ hits
plan_runs t l hits b = whole_run t l hits (path_of t hits b.behaves)

pub case_for : (t : Subject) → IsLawful t → (hits : List Met) → IsBehaviourOfKinds t hits → FaultCase t
unfolding run_of_plan
case_for t l hits b = record {
  scenario = scenario_of t (plan_for hits);
  seed = 0;
  stream = 0;
  unpaused = rigs_unpaused t (rigs_of (plan_for hits)) 0 0;
  of_kinds = subst (IsOfKinds t.kinds) (sym (plan_runs t l hits b)) b.of_kinds;
}

pub case_runs : (t : Subject) (l : IsLawful t) (hits : List Met) (b : IsBehaviourOfKinds t hits) → run_in t (case_for t l hits b) ≡ hits
unfolding run_of_plan case_for
case_runs t l hits b = plan_runs t l hits b

pub case_ends : (t : Subject) (l : IsLawful t) (hits : List Met) (b : IsBehaviourOfKinds t hits) → verdict_in t (case_for t l hits b) ≡ verdict_at_end t hits
unfolding case_for
case_ends t l hits b =
    run_judged t.asks (scenario_of t (plan_for hits)) t.names 0 0 t.limit (rigs_unpaused t (rigs_of (plan_for hits)) 0 0)
    ∙ ap (λ (ms : List Met). verdict_at_end t ms) (case_runs t l hits b)
