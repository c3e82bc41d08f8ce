-- The facts that a report prints beside its behaviours: the run without faults, and how often a point is reached.
use Rattle.std.proofs.Common.{◌≡◌, ℕ, zero, suc, ◌+◌, ◌<◌, nat_lt, Bool, true, false, cond, Some, List, [], ◌∷◌, map, length, refl, ap, sym, ◌∙◌, subst, arith}
use Rattle.std.specs.Prelude.{Contains, slice_get}
use Rattle.std.specs.List.{range_with_len}
use Rattle.std.proofs.lemmas.List.{length-map}
use Rattle.std.proofs.lemmas.List.FromFn.{length-range_with_len}
use Rattle.scenario_values.specs.Scenario.{Entries}
use Rattle.action_eval.specs.declared.rig.Rig.{Rig}
use Rattle.action_eval.specs.Answers.{given_of}
use Rattle.action_eval.specs.RiggedScenario.{rigged_scenario}
use Rattle.target_trait.specs.Outcomes.{outcome}
use Rattle.plan_gen.specs.Census.{census_of}
use Rattle.plan_gen.specs.LoopRuns.{times}
use Rattle.plan_gen.proofs.Rigged.{rigged_scenario_nothing}
use Rattle.grown_plans.specs.AskedPoints.{ReachesByAsked}
use Rattle.grown_plans.specs.Runs.{Met, acting}
use Rattle.grown_plans.specs.GrownPlans.{Subject, grown, level, levels, levels_to, most, run_of_plan}
use Rattle.grown_plans.specs.Promises.{IsLawful}
use Rattle.grown_plans.proofs.AskedSites.{reaches_by_asked}
use Rattle.grown_plans.proofs.Levels.{level_grown}
use Rattle.grown_plans.proofs.Members.{contains_head, contains_map}
use Rattle.campaign_core.specs.promises.Behaviours.{times_hit}
use Rattle.campaign_core.specs.promises.Told.{Told}
use Rattle.campaign_core.proofs.PromisesLemmas.Counted.{has_acting, in_range}
use Rattle.campaign_core.proofs.PromisesLemmas.Numbers.{all_at, at_contained, contains_at, get_front, get_unmapped}

pub long_range : {A : Type 0} (f : ℕ → A) (n : ℕ) → length (map f (range_with_len 0 n)) ≡ n
long_range f n = length-map (range_with_len 0 n) f ∙ length-range_with_len 0 n

-- ---- the run without faults

-- its plan stands first
pub first_level : (t : Subject) (d : ℕ) → slice_get (levels t d) 0 ≡ Some []
unfolding levels_to level
first_level t zero = refl
first_level t (suc d) = get_front (levels t d) (level t (suc d)) 0 [] (first_level t d)

pub without_faults : (t : Subject) → IsLawful t → acting (run_of_plan t []) ≡ 0
unfolding level
without_faults t l = (has_acting t l 0 [] (level_grown t l 0).0).1

-- ---- how often a point is reached

most_of : (ns : List ℕ) → 0 < most ns → Contains ns (most ns)
most_of [] some = absurd (omega (arith, some))
most_of (n ∷ ns) some = by_test (nat_lt (most ns) n) some (most_of ns)
  where
    by_test : (b : Bool) → 0 < cond b n (most ns) → (0 < most ns → Contains ns (most ns)) → Contains (n ∷ ns) (cond b n (most ns))
    by_test true some later = contains_head n ns
    by_test false some later = let there = later some in (suc there.0, (let less : there.0 < length ns = there.1 in omega (arith, less)), there.2)

-- the most hits of a point among some of the runs that are told
pub reached_by : (t : Subject) (told : Told) (all some : List (List Rig)) → told.behaviours ≡ map (run_of_plan t) all → ((plan : List Rig) → Contains some plan → Contains all plan)
    → (point times : ℕ) → most (map (λ plan. times_hit point (run_of_plan t plan)) some) ≡ times → 0 < times → (hits : List Met) × Contains told.behaviours hits × (times_hit point hits ≡ times)
reached_by t told all some behaves among point times is many =
    let counts : List ℕ = map (λ plan. times_hit point (run_of_plan t plan)) some in
    let place = at_contained counts (most counts) (most_of counts (subst (λ (n : ℕ). 0 < n) (sym is) many)) in
    let one = get_unmapped (λ plan. times_hit point (run_of_plan t plan)) some place.0 (most counts) place.2 in
    let plan : List Rig = one.0 in (
      run_of_plan t plan,
      subst (λ (l : List (List Met)). Contains l (run_of_plan t plan)) (sym behaves) (contains_map (run_of_plan t) all plan (among plan (contains_at some place.0 plan one.1))),
      one.2 ∙ is,
    )

-- the count that stands at a point's place
pub at_point : (f : ℕ → ℕ) (n point times : ℕ) → slice_get (map f (range_with_len 0 n)) point ≡ Some times → f point ≡ times
at_point f n point times at =
    let from = get_unmapped f (range_with_len 0 n) point times at in
    let same : from.0 ≡ 0 + point = in_range 0 n point from.0 from.1 in
    ap f (let goal : point ≡ from.0 = omega (arith, same) in goal) ∙ from.2

-- ---- the census

map_same : (f g : ℕ → ℕ) → ((n : ℕ) → f n ≡ g n) → (xs : List ℕ) → map f xs ≡ map g xs
map_same f g same [] = refl
map_same f g same (x ∷ xs) = ap (λ (n : ℕ). n ∷ map f xs) (same x) ∙ ap (λ (l : List ℕ). g x ∷ l) (map_same f g same xs)

-- it counts the hits of the run without faults
pub census_counts : (t : Subject) → IsLawful t → (d seed : ℕ) → slice_get (grown t d) 0 ≡ Some []
    → census_of t.asks t.names seed t.limit ≡ map (λ point. times_hit point (run_of_plan t [])) (range_with_len 0 (length t.names))
census_counts t l d seed first =
    let by : ReachesByAsked t [] = all_at (ReachesByAsked t) (grown t d) 0 [] (reaches_by_asked t l d) first in
    let empty : rigged_scenario t.names [] ≡ [] = rigged_scenario_nothing t.names [] refl in
    sym (map_same (λ point. times_hit point (run_of_plan t [])) (λ p. times p (outcome t.asks (given_of [] t.names seed 0 t.limit)).asked)
    (λ point. by seed 0 point ∙ ap (λ (s : Entries). times point (outcome t.asks (given_of s t.names seed 0 t.limit)).asked) empty) (range_with_len 0 (length t.names)))
