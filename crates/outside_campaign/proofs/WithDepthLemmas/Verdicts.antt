-- The verdicts of plans, those that grew before the others.
use Rattle.std.proofs.Common.{◌≡◌, ◌<◌, ◌++◌, ℕ, List, [], ◌∷◌, Option, Some, length, map, get_or, ap, sym, ◌∙◌, subst, arith, refl}
use Rattle.std.specs.List.{AllByRecursion}
use Rattle.std.proofs.lemmas.List.{get_or-map, get_or_append_left, length-map, map-append}
use Rattle.scenario_values.specs.Scenario.{Entries, IsScenario}
use Rattle.scenario_values.specs.Tidied.{tidied}
use Rattle.action_eval.specs.Catalogue.{IsCatalogue}
use Rattle.action_eval.specs.RiggedScenario.{CanBeRigged}
use Rattle.action_eval.specs.declared.rig.Rig.{Rig}
use Rattle.action_eval.proofs.Rigged.{rigged_scenario_keeps}
use Rattle.target_trait.specs.declared.judgement.Verdict.{Verdict}
use Rattle.grown_plans.specs.numbered.GrownScenarios.{grown_scenario, grown_scenarios}
use Rattle.grown_plans.specs.GrownPlans.{rigs_of}
use Rattle.answered_runs.specs.Answered.{Answered, runs_in}
use Rattle.answered_runs.specs.KnownLists.{verdict_told}
use Rattle.outside_campaign.specs.Asked.{plan_verdicts}
use Rattle.answered_runs.specs.grown.Causes.{AreVerdictsFrom, verdicts_in}
use Rattle.answered_runs.proofs.GrownLemmas.Caused.{all_at}
use Rattle.answered_runs.proofs.Known.{told_known}
use Rattle.outside_campaign.specs.with_depth.Grown.{known}

-- the first verdicts are those of the plans that grew
pub verdicts_first : (a : Answered) (depth : ℕ) (grew : List (List Rig)) (plans rest : List Entries) (verdicts : List (Option Verdict)) → plans ≡ grown_scenarios a.points grew ++ rest
    → verdicts ≡ plan_verdicts (known a depth) plans → AreVerdictsFrom a depth grew verdicts
verdicts_first a depth grew plans rest verdicts are is =
    (plan_verdicts (known a depth) rest, is ∙ ap (plan_verdicts (known a depth)) are ∙ map-append (λ plan. known a depth (tidied plan)) (grown_scenarios a.points grew) rest ∙ ap (λ (vs : List (Option Verdict)). vs ++ plan_verdicts (known a depth) rest) (each grew))
  where
    each : (plans : List (List Rig)) → plan_verdicts (known a depth) (grown_scenarios a.points plans) ≡ map (λ plan. verdicts_in a depth (rigs_of plan)) plans
    each [] = refl
    each (plan ∷ more) = ap (λ (vs : List (Option Verdict)). verdicts_in a depth (rigs_of plan) ∷ vs) (each more)

-- each stands in the list as its scenario
grown_at : (points : List (List ℕ)) (grew : List (List Rig)) (plans rest : List Entries) (n : ℕ) → plans ≡ grown_scenarios points grew ++ rest → n < length grew
    → get_or plans n [] ≡ grown_scenario points (get_or grew n [])
grown_at points grew plans rest n are less =
    let many = length-map grew (grown_scenario points) in
    ap (λ (ps : List Entries). get_or ps n []) are ∙ get_or_append_left (grown_scenarios points grew) rest [] n (omega (arith, less, many)) ∙ get_or-map (grown_scenario points) grew n [] [] less

-- the recorded verdict of one is known
pub known_grown : (a : Answered) (depth : ℕ) (grew : List (List Rig)) (plans rest : List Entries) (n : ℕ) (v : Verdict) → plans ≡ grown_scenarios a.points grew ++ rest → n < length grew
    → verdict_told (runs_in a) (get_or grew n []) ≡ Some v → known a depth (tidied (get_or plans n [])) ≡ Some v
known_grown a depth grew plans rest n v are less e =
    ap (λ (s : Entries). known a depth (tidied s)) (grown_at a.points grew plans rest n are less) ∙ told_known a depth (get_or grew n []) v e

-- each plan that grew has a lawful scenario
pub grown_lawful : (points : List (List ℕ)) (grew : List (List Rig)) (plans rest : List Entries) (n : ℕ) → IsCatalogue points → AllByRecursion (λ plan. CanBeRigged (rigs_of plan)) grew → plans ≡ grown_scenarios points grew ++ rest
    → n < length grew → IsScenario (get_or plans n [])
grown_lawful points grew plans rest n catalogue can are less =
    let plan : List Rig = get_or grew n [] in
    let can_be : CanBeRigged (rigs_of plan) = all_at (λ plan. CanBeRigged (rigs_of plan)) grew n [] less can in
    subst IsScenario (sym (grown_at points grew plans rest n are less)) (rigged_scenario_keeps points (rigs_of plan) catalogue can_be.0 can_be.1 can_be.2)
