use Rattle.std.proofs.Common.{rules, ◌≡◌, ◌<◌, ℕ, zero, suc, Option, Some, List, [], ◌∷◌, map, length, refl, ap, sym, ◌∙◌, subst, arith, get_or}
use Rattle.std.specs.Prelude.{slice_get}
use Rattle.action_eval.specs.declared.rig.Rig.{Rig}
use Rattle.action_eval.specs.Answers.{texts}
use Rattle.action_eval.specs.RiggedScenario.{rigged_scenario}
use Rattle.grown_plans.specs.GrownPlans.{rigs_of}
use Rattle.grown_plans.specs.numbered.GrownScenarios.{grown_among, grown_scenario, grown_scenarios}
use Rattle.campaign_core.proofs.listing.grown_plan.Goals as goal

-- the scenario of a plan stands in its place
placed : {A B : Type 0} (f : A → B) (xs : List A) (n : ℕ) (d : A) → n < length xs → slice_get (map f xs) n ≡ Some (f (get_or xs n d))
placed f [] n d lt = absurd (omega (arith, lt))
placed f (x ∷ xs) zero d lt = refl
placed f (x ∷ xs) (suc n) d lt = placed f xs n d (omega (arith, lt))

pub returns : goal.returns
returns c =
    let names : List (List ℕ) = texts c.args.catalogue.now in
    let plans : List (List Rig) = c.in-Some.plans in
    let lt : c.args.number < length plans = search rules in
    let faults = c.as_slice.ensures.value ∙ c.in_ok-faults_of.ensures in
    let rigs = c.as_slice-2.ensures.value ∙ c.in_ok-rigs_of.ensures ∙ ap rigs_of faults in
    subst (λ (o : Option (List (List Rig))). Some c.in_ok-scenario_of.field-0 ≡ slice_get (grown_scenarios names (grown_among o)) c.args.number) (sym c.in-Some.is)
    (ap Some (c.in_ok-scenario_of.ensures ∙ ap (rigged_scenario names) rigs) ∙ sym (placed (grown_scenario names) plans c.args.number [] lt))
