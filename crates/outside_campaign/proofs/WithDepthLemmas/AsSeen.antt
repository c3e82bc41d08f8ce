-- A report by answers keeps its promises of each behaviour that doesn't begin like a run recorded without its hits.
use Rattle.std.proofs.Common.{◌≡◌, ℕ, zero, suc, ◌+◌, ◌<◌, ◌≤◌, ◌^◌, ◌⊎◌, inl, inr, Bool, true, false, cond, Some, List, [], ◌∷◌, ◌++◌, get_or, length, map, refl, ap, sym, ◌∙◌, subst, arith}
use Rattle.std.specs.Prelude.{All, Contains, None, Option, flat_map, slice_get, slice_index_or, sum}
use Rattle.std.specs.List.{AllByRecursion, filter, range_with_len}
use Rattle.std.proofs.lemmas.List.{append-nil, get_or_append_left, get_or-map, length-append, length-map}
use Rattle.std.proofs.lemmas.List.Elements.{All-from_recursion}
use Rattle.std.proofs.lemmas.List.FromFn.{map-range_with_len_more}
use Rattle.std.proofs.lemmas.Option.{get_or_from_slice_get, slice_get-get_or, slice_get_within}
use Rattle.scenario_values.specs.Scenario.{DistinctNames, Entries, IsScenario}
use Rattle.action_eval.specs.declared.rig.Rig.{Rig}
use Rattle.target_trait.specs.declared.judgement.Verdict.{Verdict}
use Rattle.target_trait.specs.declared.judgement.Verdict.TheVariants.{Fail, Unresolved}
use Rattle.action_eval.specs.Answers.{given_of}
use Rattle.grown_plans.specs.Runs.{Met, acting, run}
use Rattle.grown_plans.specs.GrownPlans.{Subject, given_for, grown, rigs_of, level, levels, levels_to, onward, run_of_plan, scenario_of}
use Rattle.grown_plans.specs.Promises.{IsCause, IsLawful, IsOfKinds, run_in, verdict_of_plan}
use Rattle.grown_plans.proofs.Apart.{IsGrownTo, levels_grown}
use Rattle.grown_plans.proofs.Causes.{has_causes}
use Rattle.grown_plans.proofs.Faults.{faults as faults_of}
use Rattle.grown_plans.proofs.Levels.{IsGrown, level_grown}
use Rattle.grown_plans.proofs.Members.{all_append, all_contains, all_left, all_right, all_weaker, contains_head, contains_map}
use Rattle.plan_gen.specs.Census.{census_of}
use Rattle.grown_plans.proofs.Onward.{grown_can, no_seed_needed}
use Rattle.grown_plans.proofs.Paths.{some_is}
use Rattle.grown_plans.proofs.PlanRuns.{plan_judged}
use Rattle.grown_plans.proofs.RiggedScenarios.{CanAct}
use Rattle.grown_runs.specs.GrownRuns.{cause_at, over}
use Rattle.grown_runs.specs.known.Known.{KnownRuns}
use Rattle.grown_runs.specs.known.KnownPart.{are_told, is_reached, is_reached_onward, known_levels, to_run}
use Rattle.grown_runs.specs.known.KnownPlans.{level_size}
use Rattle.grown_runs.specs.known.SeenPromises.{IsTriedAsSeen}
use Rattle.grown_runs.specs.known.Unseen.{BeginsUnseen, is_unseen}
use Rattle.grown_runs.proofs.KnownLemmas.Seen.{apart, contains_filtered, from_then_on, nothing_skipped, reached_or_unseen, stands_in, unseen_in, whole}
use Rattle.grown_runs.proofs.KnownLemmas.Ends.{filtered}
use Rattle.answered_runs.specs.grown.Further.{further_known}
use Rattle.answered_runs.specs.grown.Reached.{reached_known}
use Rattle.result_book.specs.Verdicts.{numbered, verdicts_from}
use Rattle.result_book.specs.FirstFailures.{first_failures}
use Rattle.result_book.proofs.EachCodeLemmas.{firsts_of}
use Rattle.report.specs.Reports.{CauseFacts, GrowthFacts}
use Rattle.campaign_core.specs.promises.Behaviours.{IsBehaviourOfKinds, faults, times_hit, verdict_at_end}
use Rattle.campaign_core.specs.promises.Promises.{HasCause, HasUnseenCause, IsSticky, IsToldOrUnseen, PromisesAsSeen, Sound}
use Rattle.campaign_core.specs.promises.Promises.{IsCause as IsToldCause}
use Rattle.campaign_core.specs.promises.Further.{Further}
use Rattle.campaign_core.specs.promises.Told.{HasBehaviour, HasVerdict, Told, count_of_all, count_of_levels, level_at}
use Rattle.campaign_core.proofs.PromisesLemmas.Cases.{case_for, case_runs}
use Rattle.campaign_core.proofs.PromisesLemmas.ByLevel.{by_level, levels_flat}
use Rattle.campaign_core.proofs.PromisesLemmas.Counted.{has_acting}
use Rattle.campaign_core.proofs.PromisesLemmas.Facts.{at_point, census_counts, first_level, long_range, reached_by, without_faults}
use Rattle.campaign_core.proofs.PromisesLemmas.Faults.{faults_among}
use Rattle.campaign_core.proofs.PromisesLemmas.Kinds.{each_of_kinds}
use Rattle.campaign_core.proofs.PromisesLemmas.InPlace.{grown_can_be_left}
use Rattle.campaign_core.proofs.PromisesLemmas.Least.{no_lesser}
use Rattle.campaign_core.proofs.PromisesLemmas.LeastCauses.{each_least, in_order, least_causes, listed}
use Rattle.campaign_core.proofs.PromisesLemmas.LeftOut.{CanBeLeft}
use Rattle.campaign_core.proofs.PromisesLemmas.Listed.{Lists, all_are, all_counted, by_case, each_behaves, each_judged, has_behaviour, no_two, told_once}
use Rattle.campaign_core.proofs.PromisesLemmas.Sticky.{each_sticky, onward_sticky}
use Rattle.campaign_core.proofs.PromisesLemmas.Numbers.{all_at, at_contained, contains_at, get_front, get_in_front, get_map, get_unmapped, sum_more}
use Rattle.campaign_core.specs.Findings.{IsCauseAmong, ReducesToMinimal, cause_of}
use Rattle.campaign_core.specs.Headline.{Campaign, grower, say}
use Rattle.campaign_core.proofs.Causes.{each_is}
use Rattle.campaign_core.proofs.Findings.{Causes, first_at, found_of, further, once_each, verdict_at}
use Rattle.campaign_core.proofs.Firsts.{each_fails, findings_minimal}
use Rattle.answer_text.specs.Runs.{told_in}
use Rattle.answered_runs.specs.Answered.{runs_in}
use Rattle.answered_runs.specs.Components.{AgreesWithRuns, IsComponent}
use Rattle.answered_runs.specs.KnownLists.{KnownList}
use Rattle.campaign_given.specs.Description.{Description}
use Rattle.campaign_given.specs.Given.{Given}
use Rattle.answered_runs.specs.grown.Further.{census_seen}
use Rattle.grown_runs.specs.known.Known.{hits_of}
use Rattle.outside_campaign.specs.with_depth.Grown.{campaign}
use Rattle.outside_campaign.specs.with_depth.Seen.{growth_seen, plans_seen, report_seen, told_seen}
use Rattle.outside_campaign.specs.declared.with_depth.candidates.Told.{Told as ToldOutcome}
use Rattle.outside_campaign.specs.with_depth.inside.Outcomes.{IsDecided}
use Rattle.outside_campaign.proofs.WithDepthLemmas.Reports.{plans_are}

-- ---- the sizes of the known levels

filter_both : {A : Type 0} (p : A → Bool) (xs ys : List A) → filter p (xs ++ ys) ≡ filter p xs ++ filter p ys
filter_both p [] ys = refl
filter_both {A} p (x ∷ xs) ys = ap (λ (l : List A). cond (p x) (x ∷ l) l) (filter_both p xs ys) ∙ by_test (p x)
  where
    by_test : (b : Bool) → cond b (x ∷ filter p xs ++ filter p ys) (filter p xs ++ filter p ys) ≡ cond b (x ∷ filter p xs) (filter p xs) ++ filter p ys
    by_test true = refl
    by_test false = refl

filter_flat : {A B : Type 0} (p : B → Bool) (f : A → List B) (xs : List A) → filter p (flat_map f xs) ≡ flat_map (λ x. filter p (f x)) xs
filter_flat p f [] = refl
filter_flat {A} {B} p f (x ∷ xs) = filter_both p (f x) (flat_map f xs) ∙ ap (λ (l : List B). filter p (f x) ++ l) (filter_flat p f xs)

sizes_known : (t : Subject) (known : KnownRuns) (d : ℕ) → sum (map (level_size t known) (range_with_len 0 (d + 1))) ≡ length (known_levels t d known)
unfolding levels_to
sizes_known t known zero = omega arith
sizes_known t known (suc d) =
    ap (λ k. sum (map (level_size t known) (range_with_len 0 k))) (let goal : suc d + 1 ≡ d + 1 + 1 = omega arith in goal)
    ∙ ap (λ (l : List ℕ). sum l) (map-range_with_len_more (level_size t known) 0 (d + 1) (suc d) (omega arith))
    ∙ sum_more (map (level_size t known) (range_with_len 0 (d + 1))) (level_size t known (suc d))
    ∙ ap (λ n. n + level_size t known (suc d)) (sizes_known t known d)
    ∙ sym (length-append (filter (is_reached known) (levels t d)) (filter (is_reached known) (level t (suc d))))
    ∙ ap (λ (l : List (List Rig)). length l) (sym (filter_both (is_reached known) (levels t d) (level t (suc d))))

in_first_level : (t : Subject) → Contains (level t 0) []
unfolding level
in_first_level t = contains_head [] []

-- a known plan of a level grew to it
each_known : (t : Subject) → IsLawful t → (known : KnownRuns) (n : ℕ) → AllByRecursion (IsGrown t n) (filter (is_reached known) (level t n))
each_known t l known n = filtered (is_reached known) (IsGrown t n) (level t n) (level_grown t l n)

known_flat : (t : Subject) (known : KnownRuns) (d : ℕ) → known_levels t d known ≡ flat_map (λ n. filter (is_reached known) (level t n)) (range_with_len 0 (d + 1))
known_flat t known d = ap (λ (l : List (List Rig)). filter (is_reached known) l) (levels_flat t d) ∙ filter_flat (is_reached known) (level t) (range_with_len 0 (d + 1))

-- ---- the promises

module _ (c : Campaign) (depth : ℕ) (known : KnownRuns) (l : IsLawful (grower c)) (done : to_run (grower c) depth known ≡ [])
    (few : c.given.max_hits < 2 ^ 32) (low_depth : depth ≤ 64) (lawful : AllByRecursion (λ s. IsScenario s) (plans_seen c depth known)) where
  abbrev t : Subject
  t = grower c

  abbrev seed : ℕ
  seed = c.given.plans.seed

  abbrev plans : List Entries
  plans = plans_seen c depth known

  abbrev first : List (List Rig)
  first = known_levels t depth known

  abbrev behind : List (List Rig)
  behind = filter (is_reached_onward known) (onward t depth)

  abbrev told : Told
  told = told_seen c depth known

  abbrev IsUnseen : List Met → Type 0
  IsUnseen hits = BeginsUnseen t depth known hits

  -- the plans that grew stand first in the list
  plan_at : (n : ℕ) (plan : List Rig) → slice_get (first ++ behind) n ≡ Some plan → slice_get plans n ≡ Some (scenario_of t plan)
  plan_at n plan e =
      get_front (map (scenario_of t) (first ++ behind)) (further_known t c.given.plans (known [])) n (scenario_of t plan) (get_map (scenario_of t) (first ++ behind) n plan e)

  comes_at : (n : ℕ) (plan : List Rig) → slice_get (first ++ behind) n ≡ Some plan → slice_get told.report.verdicts n ≡ Some (verdict_of_plan t seed n plan)
  comes_at n plan e =
      verdict_at (say c) 0 plans n (scenario_of t plan) (plan_at n plan e)
      ∙ ap (λ i. Some (say c i (scenario_of t plan))) (let goal : 0 + n ≡ n = omega arith in goal)

  lists : Lists t first behind told
  lists = record { first_are = sizes_known t known depth; behind_are = refl; behaves = refl; comes = comes_at; apart = apart t l depth known done }

  -- ---- what is told is so

  of_known : (P : List Rig → Type 0) → AllByRecursion P (grown t depth) → AllByRecursion P (first ++ behind)
  of_known P each =
      all_append P first behind
      (filtered (is_reached known) P (levels t depth) (all_left P (levels t depth) (onward t depth) each))
      (filtered (is_reached_onward known) P (onward t depth) (all_right P (levels t depth) (onward t depth) each))

  told_behaves : AllByRecursion (IsBehaviourOfKinds t) told.behaviours
  told_behaves = each_behaves t l first behind told lists (of_known (λ plan. IsOfKinds t.kinds (run_of_plan t plan)) (each_of_kinds t l depth))

  told_judged : (number : ℕ) (hits : List Met) → HasBehaviour told number hits → HasVerdict told number (verdict_at_end t hits)
  told_judged = each_judged t l first behind told lists (of_known CanAct (grown_can t l depth))

  -- ---- behaviours

  in_front : (bound : ℕ) (xs ys : List (List Rig)) → first ++ behind ≡ xs ++ ys → bound ≡ length xs → (hits : List Met) (b : IsBehaviourOfKinds t hits)
      → IsTriedAsSeen t depth known xs (case_for t l hits b) → IsToldOrUnseen t told IsUnseen bound hits
  in_front bound xs ys split size hits b (inl one) =
      inl (by_case t l first behind told lists bound hits b (told_once t l first behind told lists xs ys bound (case_for t l hits b) split size one))
  in_front bound xs ys split size hits b (inr begins) = inr (subst IsUnseen (case_runs t l hits b) begins)

  skipped_none : (hits : List Met) → IsBehaviourOfKinds t hits → acting hits ≤ depth → IsToldOrUnseen t told IsUnseen (count_of_levels told) hits
  skipped_none hits b few =
      let same : acting (run_in t (case_for t l hits b)) ≡ acting hits = ap (λ (ms : List Met). acting ms) (case_runs t l hits b) in
      in_front (count_of_levels told) first behind refl (sizes_known t known depth) hits b (nothing_skipped t l depth known done (case_for t l hits b) (omega (arith, few, same)))

  whole_told : told.growth.beyond ≡ 0 → (hits : List Met) → IsBehaviourOfKinds t hits → IsToldOrUnseen t told IsUnseen (count_of_levels told) hits
  whole_told none hits b =
      in_front (count_of_levels told) first behind refl (sizes_known t known depth) hits b (whole t l depth known done none (case_for t l hits b))

  sticky_told : (hits : List Met) → IsBehaviourOfKinds t hits → IsSticky depth hits → IsToldOrUnseen t told IsUnseen (count_of_all told) hits
  sticky_told hits b s =
      in_front (count_of_all told) (first ++ behind) [] (sym (append-nil (first ++ behind))) (all_are t l first behind told lists) hits b
      (from_then_on t l depth known done (case_for t l hits b) s.0 s.2 s.1 s.3 (case_runs t l hits b ∙ s.4) s.6 s.5 s.7)

  -- ---- plans by their numbers

  -- a plan of the levels
  in_levels : (number : ℕ) (plan : List Rig) → number < count_of_levels told → slice_get (first ++ behind) number ≡ Some plan → Contains (levels t depth) plan
  in_levels number plan low at =
      let size = sizes_known t known depth in
      contains_filtered (is_reached known) (levels t depth) plan (contains_at first number plan (get_in_front first behind number plan (omega (arith, low, size)) at))

  grown_to : (plan : List Rig) → Contains (levels t depth) plan → IsGrownTo t depth plan
  grown_to plan in_them = all_contains (IsGrownTo t depth) (levels t depth) plan (levels_grown t l depth) in_them

  -- ---- causes

  named_first : (n : ℕ) → n < length (first ++ behind) → get_or plans n [] ≡ scenario_of t (get_or (first ++ behind) n [])
  named_first n lt =
      let made = length-map (first ++ behind) (scenario_of t) in
      get_or_append_left (map (scenario_of t) (first ++ behind)) (further_known t c.given.plans (known [])) [] n (omega (arith, made, lt))
      ∙ get_or-map (scenario_of t) (first ++ behind) n [] [] lt

  among_all : All (IsCauseAmong t seed (first ++ behind)) told.growth.causes
  among_all =
      All-from_recursion (IsCauseAmong t seed (first ++ behind)) (map (cause_of plans) (over (cause_at t seed) (first ++ behind) 0 (length (first ++ behind))))
      (each_is t seed plans (first ++ behind) named_first 0 (length (first ++ behind)) (omega arith))

  cause_at_place : (n : ℕ) (none : CauseFacts) → n < length told.growth.causes → IsToldCause t told (slice_index_or told.growth.causes n none)
  cause_at_place n none low =
      let x : CauseFacts = slice_index_or told.growth.causes n none in
      let h : IsCauseAmong t seed (first ++ behind) x = among_all n none low in
      let plan : List Rig = slice_index_or (first ++ behind) x.number [] in
      let at : slice_get (first ++ behind) x.number ≡ Some plan = slice_get-get_or (first ++ behind) x.number [] h.among in
      let all = all_are t l first behind told lists in
      let inside = h.among in
      record {
        told_of = omega (arith, inside, all);
        fails = comes_at x.number plan at ∙ ap (λ (v : Verdict). Some v) h.least.0;
        least = λ levels_low found hits left b has behaves answered.
            let runs : run_of_plan t plan ≡ found = some_is (run_of_plan t plan) found (sym (has_behaviour t l first behind told lists x.number plan at) ∙ b) in
            no_lesser t l depth seed x.number x.code plan found hits left (grown_to plan (in_levels x.number plan levels_low at)) runs h.least has behaves answered;
      }

  -- faults of a plan are those of its run
  faults_in : (plan cause : List Rig) (hits found : List Met) → IsGrownTo t depth plan → IsGrownTo t depth cause → run_of_plan t plan ≡ hits → run_of_plan t cause ≡ found
      → AllByRecursion (Contains plan) cause → AllByRecursion (Contains (faults hits)) (faults found)
  faults_in plan cause hits found own grew runs same among =
      faults_among found hits
      (subst (λ (rigs : List Rig). AllByRecursion (Contains rigs) (faults_of [] found)) (sym own.2.runs ∙ ap (faults_of []) runs)
      (subst (λ (rigs : List Rig). AllByRecursion (Contains plan) rigs) (sym grew.2.runs ∙ ap (faults_of []) same) among))

  caused_of : (number code : ℕ) (hits : List Met) → number < count_of_levels told → HasBehaviour told number hits → HasVerdict told number (Fail code)
      → HasCause told code hits ⊎ HasUnseenCause t IsUnseen code hits
  caused_of number code hits low b comes =
      let of_number = get_unmapped (run_of_plan t) (first ++ behind) number hits b in
      let plan : List Rig = of_number.0 in
      let in_them = in_levels number plan low of_number.1 in
      let fails : verdict_of_plan t seed number plan ≡ Fail code = some_is (verdict_of_plan t seed number plan) (Fail code) (sym (comes_at number plan of_number.1) ∙ comes) in
      let why = has_causes t l depth seed number code plan in_them fails in
      let s = stands_in t depth why.0 why.1 in
      by_found plan why.0 (grown_to plan in_them) (grown_to why.0 why.1) of_number.2 why.2 why.3 (reached_or_unseen t l depth known done s.n why.0 s.le s.in_level)
    where
      by_found : (plan cause : List Rig) → IsGrownTo t depth plan → IsGrownTo t depth cause → run_of_plan t plan ≡ hits → AllByRecursion (Contains plan) cause
          → ((stream : ℕ) → IsCause t seed stream code cause) → Contains first cause ⊎ BeginsUnseen t depth known (run_of_plan t cause)
          → HasCause told code hits ⊎ HasUnseenCause t IsUnseen code hits
      by_found plan cause own grew runs among is (inl here) =
          let place = at_contained first cause here in
          let n : ℕ = place.0 in
          let at : slice_get (first ++ behind) n ≡ Some cause = get_front first behind n cause place.2 in
          inl (record {
            cause = cause_of plans (n, code);
            listed = listed t told plans (first ++ behind) refl n code cause at (is n);
            code_is = refl;
            among = λ found told_so.
                faults_in plan cause hits found own grew runs (some_is (run_of_plan t cause) found (sym (has_behaviour t l first behind told lists n cause at) ∙ told_so)) among;
          })
      by_found plan cause own grew runs among is (inr begins) =
          inr (record {
            hits = run_of_plan t cause;
            behaves = (has_acting t l grew.0 cause grew.2).0;
            fails = sym (plan_judged t l cause grew.2.can seed 0) ∙ (is 0).0;
            among = faults_in plan cause hits (run_of_plan t cause) own grew runs refl among;
            unseen = begins;
          })

  -- ---- the run without faults

  first_known : (xs : List (List Rig)) → slice_get xs 0 ≡ Some [] → slice_get (filter (is_reached known) xs) 0 ≡ Some []
  first_known [] e = absurd cc
  first_known (x ∷ xs) e =
      let same : x ≡ [] = some_is x [] e in
      ap (λ (b : Bool). slice_get (cond b (x ∷ filter (is_reached known) xs) (filter (is_reached known) xs)) 0) (ap (is_reached known) same) ∙ e

  first_plan : slice_get (first ++ behind) 0 ≡ Some []
  first_plan = get_front first behind 0 [] (first_known (levels t depth) (first_level t depth))

  clean_is : HasVerdict told 0 told.report.clean
  clean_is =
      let comes = comes_at 0 [] first_plan in
      comes ∙ ap (λ (v : Verdict). Some v) (sym (get_or_from_slice_get told.report.verdicts 0 (verdict_of_plan t seed 0 []) Unresolved comes))

  -- how many faults act
  by_their_level : (number : ℕ) (hits : List Met) → number < count_of_levels told → HasBehaviour told number hits → acting hits ≡ level_at told.growth.levels number
  by_their_level =
      by_level t l first behind told lists (λ n. filter (is_reached known) (level t n)) depth (known_flat t known depth) refl (each_known t l known)

  -- ---- the census, and what is unseen

  census_of_first : (hits : List Met) → HasBehaviour told 0 hits → (told.report.census ≡ map (λ point. times_hit point hits) (range_with_len 0 (length t.names))) ⊎ IsUnseen hits
  census_of_first hits told_so = by_hits (hits_of known []) refl
    where
      runs : run_of_plan t [] ≡ hits
      runs = some_is (run_of_plan t []) hits (sym (has_behaviour t l first behind told lists 0 [] first_plan) ∙ told_so)

      by_hits : (o : Option (List ℕ)) → hits_of known [] ≡ o → (census_seen t seed o ≡ map (λ point. times_hit point hits) (range_with_len 0 (length t.names))) ⊎ IsUnseen hits
      by_hits (Some points) e =
          inl (subst (λ (ms : List Met). census_of t.asks t.names seed t.limit ≡ map (λ point. times_hit point ms) (range_with_len 0 (length t.names))) runs
          (census_counts t l depth seed (get_front (levels t depth) (onward t depth) 0 [] (first_level t depth))))
      by_hits None e =
          inr ([], unseen_in t l depth known done 0 [] (omega arith) (in_first_level t) refl (ap are_told e), tt)

  none_of_them : told.growth.unseen ≡ 0 → (hits : List Met) → IsUnseen hits → ⊥
  none_of_them none hits begins =
      let both = ap (λ (l : List (List Rig)). length l) (filter_both (is_unseen known) first behind) in
      let sum = length-append (filter (is_unseen known) first) (filter (is_unseen known) behind) in
      let place = at_contained (filter (is_unseen known) first) begins.0 begins.1 in
      let low = place.1 in
      omega (arith, none, both, sum, low)

  -- ---- the record

  pub minimal_seen : All (ReducesToMinimal (say c)) (report_seen c depth known).findings
  minimal_seen =
      let verdicts : List Verdict = verdicts_from (say c) 0 plans in
      findings_minimal c.asks c.points seed c.given.max_hits plans (first_failures (numbered verdicts))
      (All-from_recursion (λ s. DistinctNames s) plans (all_weaker (λ (s : Entries). IsScenario s) (λ (s : Entries). DistinctNames s) (λ s is. is.distinct_names) plans lawful))
      (each_fails (say c) plans (first_failures (numbered verdicts)) (firsts_of verdicts))

  abbrev counts : List ℕ
  counts = census_seen t seed (hits_of known [])

  abbrev grew : GrowthFacts
  grew = growth_seen t seed plans depth known

  sound : Sound t depth told
  sound = record {
    behaves = told_behaves;
    judged = told_judged;
    all_told = all_counted t l first behind told lists;
    nothing_twice = no_two t l first behind told lists;
    grew = refl;
    depth = refl;
    levels = long_range (level_size t known) (depth + 1) ∙ (let one_more : depth + 1 ≡ suc depth = omega arith in one_more);
    clean = (run_of_plan t [], has_behaviour t l first behind told lists 0 [] first_plan, without_faults t l, clean_is);
    by_level = by_their_level;
    points = long_range (reached_known t depth known) (length t.names);
    reached = λ point times at many.
        reached_by t told (first ++ behind) (filter (λ plan. are_told (hits_of known plan)) (first ++ behind)) refl
        (λ plan there. contains_filtered (λ (plan : List Rig). are_told (hits_of known plan)) (first ++ behind) plan there) point times (at_point (reached_known t depth known) (length t.names) point times at) many;
    findings = first_at c c.label counts plans (Some grew) grew told.behaviours minimal_seen;
    in_order = once_each c c.label counts plans (Some grew) grew told.behaviours minimal_seen;
    met = refl;
    sticky = each_sticky t l first behind told lists depth (filtered (is_reached_onward known) (λ plan. IsSticky depth (run_of_plan t plan)) (onward t depth) (onward_sticky t l depth));
    causes = cause_at_place;
  }

  pub keeps_promises : PromisesAsSeen t depth told (BeginsUnseen t depth known)
  keeps_promises = record {
    sound = sound;
    complete = record {
      nothing_skipped = skipped_none;
      from_then_on = sticky_told;
      whole = whole_told;
      found = found_of c c.label counts plans (Some grew) grew told.behaviours minimal_seen;
      caused = caused_of;
      census = census_of_first;
      none_unseen = none_of_them;
    };
  }

  -- the causes
  can : AllByRecursion (λ plan. CanBeLeft t (rigs_of plan)) (first ++ behind)
  can = of_known (λ plan. CanBeLeft t (rigs_of plan)) (grown_can_be_left t l few depth low_depth)

  causes_are : Causes t plans told
  causes_are = record {
    least = least_causes t l told plans (first ++ behind) can plan_at among_all;
    each = λ number code s below.
        let all = all_are t l first behind told lists in
        each_least t l told plans (first ++ behind) can plan_at refl number code s (omega (arith, below, all));
    in_order = in_order t told plans (first ++ behind) refl;
  }

  -- the run of a plan's scenario is the plan's
  plays_at : (number : ℕ) (s : Entries) (hits : List Met) → slice_get plans number ≡ Some s → slice_get told.behaviours number ≡ Some hits
      → run c.asks (given_of s c.points seed number c.given.max_hits) ≡ hits
  plays_at number s hits at b =
      let of = get_unmapped (run_of_plan t) (first ++ behind) number hits b in
      let same : scenario_of t of.0 ≡ s = some_is (scenario_of t of.0) s (sym (plan_at number of.0 of.1) ∙ at) in
      ap (λ (s : Entries). run c.asks (given_of s c.points seed number c.given.max_hits)) (sym same)
      ∙ all_at (λ plan. (seed stream : ℕ) → run c.asks (given_for t plan seed stream) ≡ run_of_plan t plan) (first ++ behind) number of.0
      (of_known (λ plan. (seed stream : ℕ) → run c.asks (given_for t plan seed stream) ≡ run_of_plan t plan) (no_seed_needed t l depth)) of.1 seed number
      ∙ of.2

  pub further_seen : Further t plans told
  further_seen = further c c.label counts plans (Some grew) grew told.behaviours minimal_seen plays_at causes_are

-- ---- the scenarios of each component's list

pub lawful_seen : (outside : Description) (given : Given) (k : KnownList) (further list : List Entries) (all : List Verdict) (told : ToldOutcome) → IsDecided outside given k further list all told
    → (t : Subject) → IsComponent k.answered.points k.answered.listed t → AgreesWithRuns t (told_in k.answered.book)
    → AllByRecursion (λ s. IsScenario s) (plans_seen (campaign outside given k.depth t) k.depth (runs_in k.answered))
lawful_seen outside given k further list all told d t is agrees =
    let whole = d.lists_are.whole t is agrees in
    let e : list ≡ plans_seen (campaign outside given k.depth t) k.depth (runs_in k.answered) =
    plans_are outside given k.answered k.depth t is agrees d.low d.points list (d.plans_are ∙ whole.whole) in
    subst (AllByRecursion (λ s. IsScenario s)) e d.lawful
