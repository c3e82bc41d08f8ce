-- The report of a campaign keeps what it promises.
use Rattle.std.proofs.Common.{◌≡◌, ℕ, suc, ◌+◌, ◌<◌, ◌≤◌, ◌^◌, inl, Option, Some, IfSome, All, List, [], ◌∷◌, map, length, refl, ap, sym, ◌∙◌, subst, arith}
use Rattle.std.specs.Prelude.{slice_get, slice_index_or}
use Rattle.std.specs.List.{AllByRecursion, range_with_len}
use Rattle.std.proofs.lemmas.List.{get_or-map, length-map}
use Rattle.std.proofs.lemmas.Option.{slice_get-get_or, slice_get_within, get_or_from_slice_get}
use Rattle.scenario_values.specs.Scenario.{Entries}
use Rattle.action_eval.specs.declared.rig.Rig.{Rig}
use Rattle.target_trait.specs.declared.judgement.Verdict.{Verdict}
use Rattle.target_trait.specs.declared.judgement.Verdict.TheVariants as verdict
use Rattle.plan_gen.specs.PlanList.{further_list}
use Rattle.action_eval.specs.Answers.{given_of}
use Rattle.grown_plans.specs.Runs.{Met, run}
use Rattle.grown_plans.proofs.Onward.{no_seed_needed}
use Rattle.grown_plans.specs.GrownPlans.{given_for, rigs_of, run_of_plan, scenario_of, level, levels, onward, grown, beyond, reached}
use Rattle.grown_runs.specs.Grown.{level_sizes, reached_each}
use Rattle.campaign_core.proofs.Grown.{list_is}
use Rattle.grown_plans.specs.Promises.{IsLawful, IsCause, verdict_of_plan}
use Rattle.std.proofs.lemmas.List.Elements.{All-from_recursion}
use Rattle.grown_plans.proofs.Paths.{some_is}
use Rattle.grown_runs.specs.GrownRuns.{over, cause_at}
use Rattle.result_book.specs.Verdicts.{numbered}
use Rattle.result_book.specs.FirstFailures.{first_failures}
use Rattle.report.specs.Reports.{FindingFacts, CauseFacts, GrowthFacts}
use Rattle.campaign_core.specs.Headline.{Campaign, census, grower, plans, plans_to, say, growth, report, told_in, EachIsMinimal, KeepsPromises}
use Rattle.campaign_core.specs.Findings.{cause_of, finding, growth_of, reduction, IsCauseAmong, ReducesToMinimal}
use Rattle.campaign_core.proofs.Causes.{causes_are_causes}
use Rattle.campaign_core.proofs.Findings.{Causes, first_at, found_of, further, once_each, reduction_at, verdict_at}
use Rattle.campaign_core.specs.promises.Behaviours.{times_hit}
use Rattle.campaign_core.specs.promises.Told.{HasBehaviour, HasVerdict, Told, count_of_levels}
use Rattle.campaign_core.specs.promises.Promises.{Complete, HasFewest, IsFirst, IsSticky, Promises, Sound, nothing_unseen}
use Rattle.campaign_core.specs.promises.Promises.{IsCause as IsToldCause}
use Rattle.campaign_core.specs.promises.Further.{Further, IsReduction}
use Rattle.campaign_core.proofs.PromisesLemmas.Failures.{of_level, has_cause, fewest}
use Rattle.campaign_core.proofs.PromisesLemmas.Least.{no_lesser}
use Rattle.campaign_core.proofs.PromisesLemmas.InPlace.{grown_can_be_left}
use Rattle.campaign_core.proofs.PromisesLemmas.LeastCauses.{each_least, in_order, least_causes, listed}
use Rattle.campaign_core.proofs.PromisesLemmas.LeftOut.{CanBeLeft}
use Rattle.campaign_core.proofs.PromisesLemmas.Numbers.{all_at, get_front, get_map, get_unmapped}
use Rattle.grown_plans.proofs.Levels.{level_grown}
use Rattle.campaign_core.proofs.PromisesLemmas.ByLevel.{by_level, levels_flat}
use Rattle.campaign_core.proofs.PromisesLemmas.Counted.{level_sizes as sizes_of_levels, size_beyond}
use Rattle.campaign_core.proofs.PromisesLemmas.Facts.{at_point, census_counts, first_level, long_range, reached_by, without_faults}
use Rattle.campaign_core.proofs.PromisesLemmas.Sticky.{each_sticky, onward_sticky}
use Rattle.campaign_core.proofs.PromisesLemmas.KeepsEach.{keeps_each}
use Rattle.campaign_core.proofs.PromisesLemmas.Grew.{Grew, IsCauseOf, all_numbers, behaves_at, counted, twice, skipped_none, lists as as_lists, told_behaves, told_judged, whole_told, sticky_told, most_reached}

-- ---- the facts of a campaign

pub all_each : {A : Type 0} (P : A → Type 0) (xs : List A) → All P xs → AllByRecursion P xs
all_each P [] a = tt
all_each P (x ∷ xs) a = (a 0 x (omega arith), all_each P xs (λ k d low. a (suc k) d (omega (arith, low))))

module _ (k : Campaign) (d : ℕ) (is : Some d ≡ k.given.depth) where
  -- the plans that grew stand first
  plan_at : (n : ℕ) (plan : List Rig) → slice_get (grown (grower k) d) n ≡ Some plan → slice_get (plans k) n ≡ Some (scenario_of (grower k) plan)
  plan_at n plan e =
      ap (λ o. slice_get (plans_to k o) n) (sym is)
      ∙ ap (λ (l : List Entries). slice_get l n) (sym (list_is (grower k) d k.given.plans (census k)))
      ∙ get_front (map (scenario_of (grower k)) (grown (grower k) d)) (further_list k.points (census k) k.given.plans) n (scenario_of (grower k) plan)
      (get_map (scenario_of (grower k)) (grown (grower k) d) n plan e)

  comes_at : (n : ℕ) (plan : List Rig) → slice_get (grown (grower k) d) n ≡ Some plan → slice_get (report k).verdicts n ≡ Some (verdict_of_plan (grower k) k.given.plans.seed n plan)
  comes_at n plan e =
      verdict_at (say k) 0 (plans k) n (scenario_of (grower k) plan) (plan_at n plan e)
      ∙ ap (λ i. Some (say k i (scenario_of (grower k) plan))) (let goal : 0 + n ≡ n = omega arith in goal)

  -- how the plans grew, and what is reported of them
  abbrev grew : GrowthFacts
  grew = record {
    depth = d;
    levels = level_sizes (grower k) (d + 1);
    onward = length (onward (grower k) d);
    beyond = beyond (grower k) d;
    unseen = 0;
    reached = reached_each (grower k) d;
    causes = map (cause_of (plans k)) (over (cause_at (grower k) k.given.plans.seed) (grown (grower k) d) 0 (length (grown (grower k) d)));
  }

  is_cause_of : (c : CauseFacts) → IsCauseAmong (grower k) k.given.plans.seed (grown (grower k) d) c → IsCauseOf (grower k) d (told_in k grew) c
  is_cause_of c h =
      (slice_index_or (grown (grower k) d) c.number [], slice_get-get_or (grown (grower k) d) c.number [] h.among, h.least)

  listed_causes : All (IsCauseAmong (grower k) k.given.plans.seed (grown (grower k) d)) grew.causes
  listed_causes = causes_are_causes k (Some d) is

  has_grown : Grew (grower k) d (told_in k grew)
  has_grown = record {
    depth = refl;
    sizes = refl;
    onward_are = refl;
    beyond_is = refl;
    behaves = refl;
    comes = comes_at;
    reaches = refl;
    causes_are = all_each (IsCauseOf (grower k) d (told_in k grew)) grew.causes
        (λ n c low. is_cause_of (slice_index_or grew.causes n c) (listed_causes n c low));
    causes_listed = λ n code plan at is. (cause_of (plans k) (n, code), listed (grower k) (told_in k grew) (plans k) (grown (grower k) d) refl n code plan at is, refl, refl);
  }

-- ---- findings

module _ (k : Campaign) (d : ℕ) (is_depth : Some d ≡ k.given.depth) (l : IsLawful (grower k)) (few_hits : k.given.max_hits < 2 ^ 32) (low_depth : d ≤ 64) (minimal : All (ReducesToMinimal (say k)) (report k).findings) where
  abbrev firsts : List (ℕ × ℕ)
  firsts = first_failures (numbered (report k).verdicts)

  abbrev told : Told
  told = told_in k (grew k d is_depth)

  scenario_at : (number : ℕ) (plan : List Rig) → slice_get (grown (grower k) d) number ≡ Some plan → slice_index_or (plans k) number [] ≡ scenario_of (grower k) plan
  scenario_at number plan at = get_or_from_slice_get (plans k) number (scenario_of (grower k) plan) [] (plan_at k d is_depth number plan at)

  -- what is reported of the first failure at a place
  finding_at : (n : ℕ) (none : FindingFacts) → n < length (report k).findings → HasFewest (grower k) told (slice_index_or (report k).findings n none)
  finding_at n none low =
      let first : ℕ × ℕ = slice_index_or firsts n (0, 0) in
      let f : FindingFacts = finding (say k) (plans k) first in
      let size = length-map firsts (finding (say k) (plans k)) in
      let here : slice_index_or (report k).findings n none ≡ f = get_or-map (finding (say k) (plans k)) firsts n (0, 0) none (omega (arith, low, size)) in
      let is : IsFirst told f = subst (IsFirst told) here (first_at k k.label (census k) (plans k) (growth k) told.growth told.behaviours minimal n none low) in
      let reduction_is : IsReduction (grower k) (plans k) told f =
      subst (IsReduction (grower k) (plans k) told) here (reduction_at k k.label (census k) (plans k) (growth k) told.growth told.behaviours minimal n none low) in
      subst (HasFewest (grower k) told) (sym here) (record {
        fewest = fewest (grower k) l d told (has_grown k d is_depth) first.0 first.1 is.least;
        keeps_each = λ of_level. keeps_each (grower k) l few_hits d low_depth told (has_grown k d is_depth) first.0 first.1 is.least of_level
            (reduction (say k) first.0 first.1 f.scenario).kept f.scenario (scenario_at first.0) reduction_is.fails;
      })

  cause_at_place : (n : ℕ) (none : CauseFacts) → n < length told.growth.causes → IsToldCause (grower k) told (slice_index_or told.growth.causes n none)
  cause_at_place n none low =
      let g = has_grown k d is_depth in
      let c : CauseFacts = slice_index_or told.growth.causes n none in
      let among : IsCauseAmong (grower k) k.given.plans.seed (grown (grower k) d) c = listed_causes k d is_depth n none low in
      let h : IsCauseOf (grower k) d told c = recursive_at (IsCauseOf (grower k) d told) told.growth.causes n none g.causes_are low in
      let numbers = all_numbers (grower k) l d told g in
      let inside : c.number < length (grown (grower k) d) = slice_get_within (grown (grower k) d) c.number h.0 h.1 in
      record {
        told_of = omega (arith, inside, numbers);
        fails = g.comes c.number h.0 h.1 ∙ ap (λ (v : Verdict). Some v) h.2.0;
        least = λ levels_low found hits left b has behaves answered.
            let own = of_level (grower k) l d told g c.number found levels_low b in
            let same : own.plan ≡ h.0 = some_is own.plan h.0 (sym own.at_grown ∙ h.1) in
            no_lesser (grower k) l d k.given.plans.seed c.number c.code own.plan found hits left own.is own.runs
            (subst (IsCause (grower k) k.given.plans.seed c.number c.code) (sym same) h.2) has behaves answered;
      }
    where
      recursive_at : (P : CauseFacts → Type 0) (xs : List CauseFacts) (n : ℕ) (none : CauseFacts) → AllByRecursion P xs → n < length xs → P (slice_index_or xs n none)
      recursive_at P xs n none a low = All-from_recursion P xs a n none low

  -- the run without faults
  first_plan : slice_get (grown (grower k) d) 0 ≡ Some []
  first_plan = get_front (levels (grower k) d) (onward (grower k) d) 0 [] (first_level (grower k) d)

  clean_is : HasVerdict told 0 told.report.clean
  clean_is =
      let comes = comes_at k d is_depth 0 [] first_plan in
      comes ∙ ap (λ (v : Verdict). Some v) (sym (get_or_from_slice_get (report k).verdicts 0 (verdict_of_plan (grower k) k.given.plans.seed 0 []) verdict.Unresolved comes))

  sticky_at : (number : ℕ) (hits : List Met) → count_of_levels told ≤ number → HasBehaviour told number hits → IsSticky d hits
  sticky_at =
      let g = has_grown k d is_depth in
      each_sticky (grower k) l (levels (grower k) d) (onward (grower k) d) told (as_lists (grower k) l d told g) d (onward_sticky (grower k) l d)

  sound : Sound (grower k) d told
  sound =
      let g = has_grown k d is_depth in
      record {
        behaves = told_behaves (grower k) l d told g;
        judged = told_judged (grower k) l d told g;
        all_told = counted (grower k) l d told g;
        nothing_twice = twice (grower k) l d told g;
        grew = ap (λ (o : Option ℕ). growth_of (grower k) k.given.plans.seed (plans k) o) (sym is_depth);
        depth = refl;
        levels = long_range (λ n. length (level (grower k) n)) (d + 1) ∙ (let one_more : d + 1 ≡ suc d = omega arith in one_more);
        clean = (run_of_plan (grower k) [], behaves_at (grower k) l d told g 0 [] first_plan, without_faults (grower k) l, clean_is);
        by_level = by_level (grower k) l (levels (grower k) d) (onward (grower k) d) told (as_lists (grower k) l d told g) (level (grower k)) d (levels_flat (grower k) d) refl (level_grown (grower k) l);
        points = long_range (reached (grower k) d) (length k.points);
        reached = λ point times at many.
            reached_by (grower k) told (grown (grower k) d) (grown (grower k) d) refl (λ plan there. there) point times (at_point (reached (grower k) d) (length k.points) point times at) many;
        findings = first_at k k.label (census k) (plans k) (growth k) told.growth told.behaviours minimal;
        in_order = once_each k k.label (census k) (plans k) (growth k) told.growth told.behaviours minimal;
        met = refl;
        sticky = sticky_at;
        causes = cause_at_place;
      }

  complete : Complete (grower k) d told nothing_unseen
  complete =
      let g = has_grown k d is_depth in
      record {
        nothing_skipped = λ hits b few. inl (skipped_none (grower k) l d told g hits b few);
        from_then_on = λ hits b sticky. inl (sticky_told (grower k) l d told g hits b sticky);
        whole = λ none hits b. inl (whole_told (grower k) l d told g none hits b);
        found = found_of k k.label (census k) (plans k) (growth k) told.growth told.behaviours minimal;
        caused = λ number code hits low b comes. inl (has_cause (grower k) l d told g number code hits low b comes);
        census = λ hits told_so.
            let same : run_of_plan (grower k) [] ≡ hits = some_is (run_of_plan (grower k) []) hits (sym (behaves_at (grower k) l d told g 0 [] first_plan) ∙ told_so) in
            inl (subst (λ (ms : List Met). census k ≡ map (λ point. times_hit point ms) (range_with_len 0 (length k.points))) same (census_counts (grower k) l d k.given.plans.seed first_plan));
        none_unseen = λ none hits never. never;
      }

  keeps : Promises (grower k) d told
  keeps =
      let g = has_grown k d is_depth in
      record {
        seen = record { sound = sound; complete = complete };
        sizes = sizes_of_levels (grower k) l d told g;
        beyond = size_beyond (grower k) l d told g;
        none_unseen = refl;
        fewest = finding_at;
        most = most_reached (grower k) l d told g;
      }

  -- the causes
  can : AllByRecursion (λ plan. CanBeLeft (grower k) (rigs_of plan)) (grown (grower k) d)
  can = grown_can_be_left (grower k) l few_hits d low_depth

  causes_are : Causes (grower k) (plans k) told
  causes_are = record {
    least = least_causes (grower k) l told (plans k) (grown (grower k) d) can (plan_at k d is_depth) (listed_causes k d is_depth);
    each = λ number code s below.
        let all = all_numbers (grower k) l d told (has_grown k d is_depth) in
        each_least (grower k) l told (plans k) (grown (grower k) d) can (plan_at k d is_depth) refl number code s (omega (arith, below, all));
    in_order = in_order (grower k) told (plans k) (grown (grower k) d) refl;
  }

  -- the run of a plan's scenario is the plan's
  plays_at : (number : ℕ) (s : Entries) (hits : List Met) → slice_get (plans k) number ≡ Some s → slice_get told.behaviours number ≡ Some hits
      → run k.asks (given_of s k.points k.given.plans.seed number k.given.max_hits) ≡ hits
  plays_at number s hits at b =
      let of = get_unmapped (run_of_plan (grower k)) (grown (grower k) d) number hits b in
      let same : scenario_of (grower k) of.0 ≡ s = some_is (scenario_of (grower k) of.0) s (sym (plan_at k d is_depth number of.0 of.1) ∙ at) in
      ap (λ (s : Entries). run k.asks (given_of s k.points k.given.plans.seed number k.given.max_hits)) (sym same)
      ∙ all_at (λ plan. (seed stream : ℕ) → run k.asks (given_for (grower k) plan seed stream) ≡ run_of_plan (grower k) plan) (grown (grower k) d) number of.0
      (no_seed_needed (grower k) l d) of.1 k.given.plans.seed number
      ∙ of.2

  further_in : Further (grower k) (plans k) told
  further_in = further k k.label (census k) (plans k) (growth k) told.growth told.behaviours minimal plays_at causes_are

-- Of a campaign with a depth.
pub keeps_promises : (k : Campaign) → IsLawful (grower k) → k.given.max_hits < 2 ^ 32 → IfSome k.given.depth (λ depth. depth ≤ 64) → EachIsMinimal k → KeepsPromises k
keeps_promises k l few low minimal = λ depth is.
    let low_depth : depth ≤ 64 = subst (λ (o : Option ℕ). IfSome o (λ d. d ≤ 64)) is low in (
      grew k depth (sym is),
      keeps k depth (sym is) l few low_depth minimal,
      further_in k depth (sym is) l few low_depth minimal,
    )
