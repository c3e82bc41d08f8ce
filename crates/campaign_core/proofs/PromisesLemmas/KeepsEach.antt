-- A finding of the levels is reduced to all of its faults: fewer of them don't fail with its code.
use Rattle.std.proofs.Common.{◌≡◌, ℕ, zero, suc, ◌<◌, ◌≤◌, ◌^◌, inl, inr, false, Some, List, [], ◌∷◌, length, refl, ap, sym, ◌∙◌, arith}
use Rattle.std.specs.Prelude.{Contains, slice_get}
use Rattle.std.specs.List.{AllByRecursion}
use Rattle.scenario_values.specs.Scenario.{Entries}
use Rattle.scenario_values.specs.Keep.{kept}
use Rattle.scenario_values.specs.Tidied.{tidied}
use Rattle.action_eval.specs.declared.rig.Rig.{Rig}
use Rattle.action_eval.specs.Answers.{given_of}
use Rattle.action_eval.specs.RiggedScenario.{rigged_scenario}
use Rattle.target_trait.specs.Outcomes.{verdict_with}
use Rattle.target_trait.specs.declared.judgement.Verdict.TheVariants.{Fail}
use Rattle.plan_gen.specs.RiggedAnswers.{is_onward}
use Rattle.grown_plans.specs.Runs.{Met, acting, run}
use Rattle.grown_plans.specs.GrownPlans.{Subject, rigs_of, scenario_of, run_of_plan, in_order, levels, onward, grown}
use Rattle.grown_plans.specs.Promises.{IsLawful}
use Rattle.grown_plans.proofs.Members.{all_contains}
use Rattle.grown_plans.proofs.RiggedScenarios.{all_in_order, length_in_order, merged_once}
use Rattle.grown_plans.proofs.PlanRuns.{rigs_path, rigs_judged}
use Rattle.grown_plans.proofs.Faults.{faults_length}
use Rattle.grown_plans.proofs.Levels.{IsGrown}
use Rattle.grown_plans.proofs.Cases.{rigs_case, rigs_few}
use Rattle.campaign_core.specs.promises.Behaviours.{IsBehaviourOfKinds}
use Rattle.campaign_core.specs.promises.Told.{Told, count_of_levels, HasBehaviour, HasVerdict}
use Rattle.campaign_core.proofs.PromisesLemmas.AsPaths.{behaviour_of}
use Rattle.campaign_core.proofs.PromisesLemmas.Numbers.{get_front, contains_at}
use Rattle.campaign_core.proofs.PromisesLemmas.Grew.{Grew, levels_told, behaves_at}
use Rattle.campaign_core.proofs.PromisesLemmas.Failures.{of_level, fewest}
use Rattle.campaign_core.proofs.PromisesLemmas.Counted.{rigs_tried}
use Rattle.campaign_core.proofs.PromisesLemmas.InPlace.{grown_can_be_left}
use Rattle.campaign_core.proofs.PromisesLemmas.KeptRigs.{AreInPlace, chosen, chosen_all, chosen_in_order, all_or_fewer, kept_rigs}

at_number : {A : Type 0} (xs : List A) (n : ℕ) → n < length xs → (x : A) × (slice_get xs n ≡ Some x)
at_number [] n low = absurd (omega (arith, low))
at_number (x ∷ xs) zero low = (x, refl)
at_number (x ∷ xs) (suc n) low = at_number xs n (omega (arith, low))

rigs_many : (t : Subject) (n : ℕ) (plan : List Rig) → IsGrown t n plan → length (rigs_of plan) ≡ acting (run_of_plan t plan)
rigs_many t n plan g =
    ap (λ (x : List Rig). length x) (merged_once (in_order plan) (all_in_order (λ r. is_onward r.kind ≡ false) plan g.once)) ∙ length_in_order plan
    ∙ ap (λ (x : List Rig). length x) (sym g.runs) ∙ faults_length (run_of_plan t plan)

module _ (t : Subject) (l : IsLawful t) (few : t.limit < 2 ^ 32) (d : ℕ) (low : d ≤ 64) (told : Told) (g : Grew t d told) where
  -- fewer rigged hits of the plan of a number that is the least to fail with a code don't fail with it
  fewer_pass : (number code : ℕ) → ((other : ℕ) → other < number → HasVerdict told other (Fail code) → ⊥) → number < count_of_levels told
      → (rigs : List Rig) → AreInPlace rigs → AllByRecursion (λ r. Contains (t.kinds r.site.point) r.kind) rigs → (set : List ℕ) → (found : List Met) → HasBehaviour told number found
      → length (chosen set 0 rigs) < acting found
      → verdict_with t.asks t.names told.report.seed t.limit number (rigged_scenario t.names (chosen set 0 rigs)) ≡ Fail code → ⊥
  fewer_pass number code least below rigs in_place tried set found b less fails =
      let some : List Rig = chosen set 0 rigs in
      let order = chosen_in_order set rigs in_place in
      let kinds = chosen_all (λ r. Contains (t.kinds r.site.point) r.kind) set 0 rigs tried in
      let hits : List Met = run t.asks (given_of (rigged_scenario t.names some) t.names told.report.seed number t.limit) in
      let few_act = rigs_few t l some order kinds told.report.seed number in
      let c = rigs_case t l some order kinds told.report.seed number in
      let is : IsBehaviourOfKinds t hits = record { behaves = behaviour_of t hits (rigs_path t some told.report.seed number); of_kinds = c.of_kinds } in
      fewest t l d told g number code least below found hits b is (omega (arith, less, few_act)) (sym (rigs_judged t some told.report.seed number) ∙ fails)

  pub keeps_each : (number code : ℕ) → ((other : ℕ) → other < number → HasVerdict told other (Fail code) → ⊥) → number < count_of_levels told → (set : List ℕ) (s : Entries)
      → ((plan : List Rig) → slice_get (grown t d) number ≡ Some plan → s ≡ scenario_of t plan)
      → verdict_with t.asks t.names told.report.seed t.limit number (tidied (kept set s)) ≡ Fail code → tidied (kept set s) ≡ s
  keeps_each number code least below set s scenario fails =
      let size = levels_told t l d told g in
      let found = at_number (levels t d) number (omega (arith, below, size)) in
      let here : slice_get (grown t d) number ≡ Some found.0 = get_front (levels t d) (onward t d) number found.0 found.1 in
      let b : HasBehaviour told number (run_of_plan t found.0) = behaves_at t l d told g number found.0 here in
      let own = of_level t l d told g number (run_of_plan t found.0) below b in
      let rigs : List Rig = rigs_of own.plan in
      let in_place : AreInPlace rigs =
      (all_contains _ (grown t d) own.plan (grown_can_be_left t l few d low) (contains_at (grown t d) number own.plan own.at_grown)).in_place in
      let kept_is : tidied (kept set s) ≡ rigged_scenario t.names (chosen set 0 rigs) = ap (λ (x : Entries). tidied (kept set x)) (scenario own.plan own.at_grown) ∙ kept_rigs t.names set rigs in_place in
      let many : length rigs ≡ acting (run_of_plan t found.0) = rigs_many t own.is.0 own.plan own.is.2 ∙ ap (λ (ms : List Met). acting ms) own.runs in
      elim (all_or_fewer set 0 rigs) [
        | inl all ↦ kept_is ∙ ap (rigged_scenario t.names) all ∙ sym (scenario own.plan own.at_grown)
        | inr less ↦ absurd
            (fewer_pass number code least below rigs in_place (rigs_tried t own.is.0 own.plan own.is.2) set (run_of_plan t found.0) b (omega (arith, less, many))
            (ap (verdict_with t.asks t.names told.report.seed t.limit number) (sym kept_is) ∙ fails))
      ]
