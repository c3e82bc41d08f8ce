-- What a report says of plans that grew to a depth: nothing is skipped, nothing is reported twice, and what is reached is the most.
use Rattle.std.proofs.Common.{◌≡◌, ◌≢◌, ℕ, zero, suc, ◌+◌, ◌<◌, ◌≤◌, Some, List, [], ◌∷◌, ◌++◌, map, length, refl, ap, sym, ◌∙◌, arith}
use Rattle.std.specs.Prelude.{Contains, slice_get, sum}
use Rattle.std.specs.List.{AllByRecursion, range_with_len}
use Rattle.std.proofs.lemmas.List.{append-nil}
use Rattle.action_eval.specs.declared.rig.Rig.{Rig}
use Rattle.grown_plans.specs.Runs.{Met, acting}
use Rattle.grown_plans.specs.GrownPlans.{Subject, run_of_plan, level, levels, onward, grown, reached, most}
use Rattle.grown_plans.specs.Promises.{EachTwo, IsOfOne, IsLawful, FaultCase, run_in, verdict_in, IsTried, IsCause, verdict_of_plan}
use Rattle.report.specs.Reports.{CauseFacts}
use Rattle.grown_plans.proofs.Cases.{skips_nothing, is_whole}
use Rattle.grown_plans.proofs.Onward.{grown_can, runs_nothing_twice}
use Rattle.grown_plans.proofs.FromThenOn.{tries_onward}
use Rattle.campaign_core.specs.promises.Behaviours.{IsBehaviourOfKinds, verdict_at_end, times_hit}
use Rattle.campaign_core.specs.promises.Promises.{IsSticky}
use Rattle.campaign_core.specs.promises.Told.{HasBehaviour, HasVerdict, Told, count_of_levels, count_of_all, IsToldOnce}
use Rattle.campaign_core.proofs.PromisesLemmas.Numbers.{sizes_sum}
use Rattle.campaign_core.proofs.PromisesLemmas.Cases.{case_for, case_runs}
use Rattle.campaign_core.proofs.PromisesLemmas.Kinds.{each_of_kinds}
use Rattle.campaign_core.proofs.PromisesLemmas.Listed.{Lists, all_are, all_counted, by_case, each_behaves, each_judged, has_behaviour, no_two, told_once}

-- What is reported of a cause is true of the plan of its number.
abbrev pub IsCauseOf : Subject → ℕ → Told → CauseFacts → Type 0
IsCauseOf t d told c = (plan : List Rig) × (slice_get (grown t d) c.number ≡ Some plan) × IsCause t told.report.seed c.number c.code plan

-- the facts of such plans
pub record Grew (t : Subject) (d : ℕ) (told : Told) : Type 0 where
  pub depth : told.growth.depth ≡ d
  pub sizes : told.growth.levels ≡ map (λ n. length (level t n)) (range_with_len 0 (d + 1))
  pub onward_are : told.growth.onward ≡ length (onward t d)
  pub beyond_is : told.growth.beyond ≡ length (level t (suc d))
  pub behaves : told.behaviours ≡ map (run_of_plan t) (grown t d)
  pub comes : (n : ℕ) (plan : List Rig) → slice_get (grown t d) n ≡ Some plan → slice_get told.report.verdicts n ≡ Some (verdict_of_plan t told.report.seed n plan)
  pub reaches : told.growth.reached ≡ map (reached t d) (range_with_len 0 (length t.names))
  pub causes_are : AllByRecursion (IsCauseOf t d told) told.growth.causes
  pub causes_listed : (n code : ℕ) (plan : List Rig) → slice_get (grown t d) n ≡ Some plan → IsCause t told.report.seed n code plan
      → (c : CauseFacts) × Contains told.growth.causes c × (c.number ≡ n) × (c.code ≡ code)

module _ (t : Subject) (l : IsLawful t) (d : ℕ) (told : Told) (g : Grew t d told) where
  pub levels_told : count_of_levels told ≡ length (levels t d)
  levels_told = ap (λ (ns : List ℕ). sum ns) g.sizes ∙ sizes_sum t d

  -- as a list of plans
  pub lists : Lists t (levels t d) (onward t d) told
  lists = record { first_are = levels_told; behind_are = g.onward_are; behaves = g.behaves; comes = g.comes; apart = runs_nothing_twice t l d }

  pub all_numbers : count_of_all told ≡ length (grown t d)
  all_numbers = all_are t l (levels t d) (onward t d) told lists

  pub twice : EachTwo (λ a b. a ≢ b) told.behaviours
  twice = no_two t l (levels t d) (onward t d) told lists

  pub counted : length told.behaviours ≡ count_of_all told
  counted = all_counted t l (levels t d) (onward t d) told lists

  pub behaves_at : (n : ℕ) (plan : List Rig) → slice_get (grown t d) n ≡ Some plan → slice_get told.behaviours n ≡ Some (run_of_plan t plan)
  behaves_at = has_behaviour t l (levels t d) (onward t d) told lists

  pub told_behaves : AllByRecursion (IsBehaviourOfKinds t) told.behaviours
  told_behaves = each_behaves t l (levels t d) (onward t d) told lists (each_of_kinds t l d)

  pub told_judged : (number : ℕ) (hits : List Met) → HasBehaviour told number hits → HasVerdict told number (verdict_at_end t hits)
  told_judged = each_judged t l (levels t d) (onward t d) told lists (grown_can t l d)

  once : (xs ys : List (List Rig)) (bound : ℕ) (c : FaultCase t) → grown t d ≡ xs ++ ys → bound ≡ length xs → IsOfOne (IsTried t c) xs → IsToldOnce told bound (run_in t c) (verdict_in t c)
  once = told_once t l (levels t d) (onward t d) told lists

  of_behaviour : (bound : ℕ) (hits : List Met) (b : IsBehaviourOfKinds t hits) → IsToldOnce told bound (run_in t (case_for t l hits b)) (verdict_in t (case_for t l hits b))
      → IsToldOnce told bound hits (verdict_at_end t hits)
  of_behaviour = by_case t l (levels t d) (onward t d) told lists

  pub skipped_none : (hits : List Met) → IsBehaviourOfKinds t hits → acting hits ≤ told.growth.depth → IsToldOnce told (count_of_levels told) hits (verdict_at_end t hits)
  skipped_none hits b few =
      let c = case_for t l hits b in
      let same : acting (run_in t c) ≡ acting hits = ap (λ (ms : List Met). acting ms) (case_runs t l hits b) in
      let e = g.depth in
      of_behaviour (count_of_levels told) hits b (once (levels t d) (onward t d) (count_of_levels told) c refl levels_told (skips_nothing t l d c (omega (arith, few, same, e))))

  pub whole_told : told.growth.beyond ≡ 0 → (hits : List Met) → IsBehaviourOfKinds t hits → IsToldOnce told (count_of_levels told) hits (verdict_at_end t hits)
  whole_told none hits b =
      of_behaviour (count_of_levels told) hits b
      (once (levels t d) (onward t d) (count_of_levels told) (case_for t l hits b) refl levels_told (is_whole t l d (empty (level t (suc d)) (sym g.beyond_is ∙ none)) (case_for t l hits b)))
    where
      empty : (xs : List (List Rig)) → length xs ≡ 0 → xs ≡ []
      empty [] e = refl
      empty (x ∷ xs) e = absurd (omega (arith, e))

  pub sticky_told : (hits : List Met) → IsBehaviourOfKinds t hits → IsSticky d hits → IsToldOnce told (count_of_all told) hits (verdict_at_end t hits)
  sticky_told hits b s =
      let c = case_for t l hits b in
      of_behaviour (count_of_all told) hits b
      (once (grown t d) [] (count_of_all told) c (sym (append-nil (grown t d))) all_numbers
      (tries_onward t l d c s.0 s.2 s.1 s.3 (case_runs t l hits b ∙ s.4) s.6 s.5 s.7))

  -- the most hits of a point
  mapped : (point : ℕ) (plans : List (List Rig)) → map (times_hit point) (map (run_of_plan t) plans) ≡ map (λ plan. times_hit point (run_of_plan t plan)) plans
  mapped point [] = refl
  mapped point (plan ∷ plans) = ap (λ (ns : List ℕ). times_hit point (run_of_plan t plan) ∷ ns) (mapped point plans)

  at_place : (f : ℕ → ℕ) (from n k : ℕ) → k < n → slice_get (map f (range_with_len from n)) k ≡ Some (f (from + k))
  at_place f from zero k h = absurd (omega (arith, h))
  at_place f from (suc n) zero h = ap (λ i. Some (f i)) (let goal : from ≡ from + 0 = omega arith in goal)
  at_place f from (suc n) (suc k) h = at_place f (from + 1) n k (omega (arith, h)) ∙ ap (λ i. Some (f i)) (let goal : from + 1 + k ≡ from + suc k = omega arith in goal)

  pub most_reached : (point : ℕ) → point < length t.names → slice_get told.growth.reached point ≡ Some (most (map (times_hit point) told.behaviours))
  most_reached point h =
      ap (λ (ns : List ℕ). slice_get ns point) g.reaches ∙ at_place (reached t d) 0 (length t.names) point h
      ∙ ap (λ i. Some (reached t d i)) (let goal : 0 + point ≡ point = omega arith in goal)
      ∙ ap (λ (ns : List ℕ). Some (most ns)) (sym (ap (map (times_hit point)) g.behaves ∙ mapped point (grown t d)))
