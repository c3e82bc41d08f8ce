-- The run without faults, as answers record it, for each component that agrees with them.
use Rattle.std.proofs.Common.{Bor, ◌≡◌, ℕ, ◌+◌, ◌<◌, ◌≤◌, ◌⊎◌, inl, inr, Bool, true, false, cond, List, [], length, refl, ap, sym, ◌∙◌, subst, arith}
use Rattle.std.specs.Prelude.{Option, Some, None, IfSome, option_map, option_and_then, nat_le, ◌&&◌}
use Rattle.std.specs.List.{list_all}
use Rattle.std.specs.Option.{option_map_or}
use Rattle.std.proofs.lemmas.List.{length-map}
use Rattle.scenario_values.specs.Scenario.{Entries, IsScenario}
use Rattle.scenario_values.specs.Tidied.{tidied}
use Rattle.scenario_values.proofs.Limits.{tidied_scenario}
use Rattle.action_eval.specs.Answers.{given_of, texts}
use Rattle.action_eval.specs.Catalogue.{IsCatalogue}
use Rattle.action_eval.specs.SameMeaning.{MeansTheSame}
use Rattle.action_eval.specs.RiggedScenario.{rigged_scenario}
use Rattle.action_eval.proofs.Rigged.{rigged_scenario_keeps}
use Rattle.action_eval.proofs.RunLaws.{tidied_means}
use Rattle.target_trait.specs.Outcomes.{Told as Outcome, outcome}
use Rattle.target_trait.proofs.Verdicts.{outcome_same}
use Rattle.plan_gen.specs.Census.{census_of, counts_of}
use Rattle.plan_gen.specs.PlanList.{Asked, further_list, most_plans}
use Rattle.grown_plans.specs.GrownPlans.{Subject}
use Rattle.target_trait.specs.declared.judgement.Verdict.{Verdict}
use Rattle.grown_runs.specs.known.Known.{Told, hits_of, hits_told}
use Rattle.grown_runs.specs.known.Looks.{told}
use Rattle.answer_text.specs.Hits.{most_hits, points_of}
use Rattle.answer_text.specs.Runs.{KnownRuns, told_in}
use Rattle.answer_text.specs.declared.hits.Stretch.{Stretch}
use Rattle.answer_text.specs.declared.runs.ToldRun.{ToldRun}
use Rattle.answered_runs.specs.Answered.{Answered, hits_by, is_low, plan_runs, told_of}
use Rattle.action_eval.specs.declared.rig.Kind.{Kind}
use Rattle.answered_runs.specs.Components.{AgreesWithRuns, IsComponent, IsTrueRun}
use Rattle.answered_runs.specs.grown.Further.{AreTooMany, HasFewHits, clean_hits, clean_run, further_by, further_known, further_over, further_seen, further_told}
use Rattle.answered_runs.proofs.CertainAnswers.{rigs_certain}
use Rattle.plan_gen.proofs.Rigged.{rigged_scenario_nothing}

some_is : (a b : List ℕ) → Some a ≡ Some b → a ≡ b
some_is a b e = cc

abbrev asked_of : Subject → ℕ → Entries → List ℕ
asked_of t seed s = (outcome t.asks (given_of s t.names seed 0 t.limit)).asked

clean_asked : (t : Subject) (points : List (List ℕ)) (listed : List (List Kind)) (told : KnownRuns) (seed : ℕ) (hits : List ℕ) → IsComponent points listed t → AgreesWithRuns t told → hits_of (plan_runs points told) [] ≡ Some hits → asked_of t seed [] ≡ hits
clean_asked t points listed told seed hits is agrees e = by_told (told (tidied s)) (agrees (tidied s) (tidied_scenario s lawful) (rigs_certain points [])) e
  where
    s : Entries
    s = rigged_scenario points []

    lawful : IsScenario s
    lawful = rigged_scenario_keeps points [] (subst IsCatalogue is.names is.lawful.catalogue) (omega arith) tt tt

    means : MeansTheSame (tidied s) s
    means = tidied_means s lawful.distinct_names

    given : asked_of t seed [] ≡ asked_of t seed (tidied s)
    given =
        ap (asked_of t seed) (sym (rigged_scenario_nothing points [] refl))
        ∙ ap (λ (x : Outcome). x.asked) (sym (outcome_same t.asks t.names seed 0 t.limit (tidied s) s (means.at t.names seed 0 t.limit)))

    by_test : (b : Bool) (hs : List Stretch) → asked_of t seed (tidied s) ≡ points_of hs → cond b (Some (points_of hs)) None ≡ Some hits → asked_of t seed [] ≡ hits
    by_test true hs h f = given ∙ h ∙ some_is (points_of hs) hits f
    by_test false hs h f = absurd cc

    by_hits : (o : Option (List Stretch)) → IfSome o (λ hs. asked_of t seed (tidied s) ≡ points_of hs) → option_and_then hits_by o ≡ Some hits → asked_of t seed [] ≡ hits
    by_hits None h f = absurd cc
    by_hits (Some hs) h f = by_test (list_all is_low hs && nat_le (length (points_of hs)) most_hits) hs h f

    by_told : (o : Option ToldRun) → IfSome o (IsTrueRun t (tidied s)) → hits_told (option_map told_of o) ≡ Some hits → asked_of t seed [] ≡ hits
    by_told None h f = absurd cc
    by_told (Some r) h f = by_hits r.hits (h.hits seed 0) f

-- ---- the census of the run without faults

census_is : (a : Answered) (told hits counts : List ℕ) (n : ℕ) → clean_hits a ≡ Some told → hits ≡ told → n ≡ length a.points → counts ≡ counts_of n hits → counts ≡ counts_of (length a.points) told
census_is a told hits counts n clean same many is = is ∙ ap (λ (k : ℕ). counts_of k hits) many ∙ ap (counts_of (length a.points)) same

pub census_same : (a : Answered) (told hits counts : List ℕ) (n : ℕ) → clean_hits a ≡ Some told → hits ≡ told → n ≡ length a.points → counts ≡ counts_of n hits
    → (t : Subject) → IsComponent a.points a.listed t → AgreesWithRuns t (told_in a.book) → (seed : ℕ) → counts ≡ census_of t.asks t.names seed t.limit
census_same a told hits counts n clean same many is t component agrees seed =
    census_is a told hits counts n clean same many is
    ∙ ap (counts_of (length a.points)) (sym (clean_asked t a.points a.listed (told_in a.book) seed told component agrees clean))
    ∙ ap (λ (names : List (List ℕ)). counts_of (length names) (asked_of t seed [])) (sym component.names)

-- the storms and listed scenarios are those of each component that agrees
pub further_same : (t : Subject) (a : Answered) (asked : Asked) → IsComponent a.points a.listed t → AgreesWithRuns t (told_in a.book) → further_told a asked ≡ further_known t asked (clean_run a)
further_same t a asked is agrees = by_run (clean_run a) refl
  where
    by_hits : (o : Option (List ℕ)) → clean_hits a ≡ o → further_over a.points asked o ≡ further_seen t asked o
    by_hits None e = refl
    by_hits (Some hits) e =
        ap (λ (hs : List ℕ). further_list a.points (counts_of (length a.points) hs) asked) (sym (clean_asked t a.points a.listed (told_in a.book) asked.seed hits is agrees e))
        ∙ ap (λ (names : List (List ℕ)). further_list names (counts_of (length names) (asked_of t asked.seed [])) asked) (sym is.names)

    by_run : (o : Option Told) → clean_run a ≡ o → further_by a.points asked o ≡ further_known t asked o
    by_run None e = refl
    by_run (Some told) e = by_hits told.hits (ap hits_told e)

-- ---- by a look at the run without faults

pub clean_seen : (a : Answered) (v : Verdict) (hits : List ℕ) → clean_run a ≡ Some (told v (Some hits)) → clean_hits a ≡ Some hits
clean_seen a v hits e = ap hits_told e

pub told_by_hits : (a : Answered) (asked : Asked) (names : List (Bor (List ℕ))) (v : Verdict) (seen hits : List ℕ) (plans : List Entries) → texts names ≡ a.points → clean_run a ≡ Some (told v (Some seen)) → hits ≡ seen
    → plans ≡ further_list (texts names) (counts_of (length names) hits) asked → plans ≡ further_told a asked
told_by_hits a asked names v seen hits plans same clean slice is =
    let many : length names ≡ length a.points = sym (length-map names (λ (n : Bor (List ℕ)). n.now)) ∙ ap length same in
    is ∙ ap (λ (l : List (List ℕ)). further_list l (counts_of (length names) hits) asked) same
    ∙ ap (λ (n : ℕ). further_list a.points (counts_of n hits) asked) many
    ∙ ap (λ (hs : List ℕ). further_over a.points asked (Some hs)) slice
    ∙ ap (further_by a.points asked) (sym clean)

-- The same if the plans are refused as too many.
pub many_by_hits : (a : Answered) (asked : Asked) (before : ℕ) (names : List (Bor (List ℕ))) (v : Verdict) (seen hits : List ℕ) → texts names ≡ a.points → clean_run a ≡ Some (told v (Some seen)) → hits ≡ seen
    → (most_plans < before + length (further_list (texts names) (counts_of (length names) hits) asked)) ⊎ (most_plans ≤ length hits) → AreTooMany a asked before
many_by_hits a asked before names v seen hits same clean slice many =
    elim many [
      | inl more ↦
          let plans = ap length (told_by_hits a asked names v seen hits (further_list (texts names) (counts_of (length names) hits) asked) same clean slice refl) in
          inl (omega (arith, more, plans))
      | inr full ↦
          let long = ap length slice in
          let is = ap (λ (o : Option (List ℕ)). option_map_or length o 0) (clean_seen a v seen clean) in
          inr (omega (arith, full, long, is))
    ]

-- without hits there is no storm
pub told_without : (a : Answered) (asked : Asked) (v : Verdict) → clean_run a ≡ Some (told v None) → asked.listed ≡ further_told a asked
told_without a asked v clean = ap (further_by a.points asked) (sym clean)

pub few_without : (a : Answered) (v : Verdict) → clean_run a ≡ Some (told v None) → HasFewHits a
few_without a v clean = subst (λ (o : Option (List ℕ)). option_map_or length o 0 < most_plans) (sym (ap hits_told clean)) (omega arith)

pub told_nothing : (a : Answered) (asked : Asked) → clean_run a ≡ None → [] ≡ further_told a asked
told_nothing a asked clean = ap (further_by a.points asked) (sym clean)

pub few_nothing : (a : Answered) → clean_run a ≡ None → HasFewHits a
few_nothing a clean = subst (λ (o : Option (List ℕ)). option_map_or length o 0 < most_plans) (sym (ap hits_told clean)) (omega arith)
