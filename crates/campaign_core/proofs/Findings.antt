-- What a report says of failures, over whatever plans: each code with which a plan fails has one finding, which has the least number and is reduced.
use Rattle.std.proofs.Common.{◌≡◌, ◌≢◌, ℕ, zero, suc, ◌+◌, ◌<◌, ◌&&◌, Bool, true, false, Option, Some, All, List, [], ◌∷◌, length, refl, ap, sym, ◌∙◌, subst, arith, eq-eqb}
use Rattle.std.specs.Prelude.{AllPairs, Contains, remove, slice_get, slice_index_or}
use Rattle.std.specs.List.{range_with_len}
use Rattle.std.proofs.lemmas.List.{get_or-map, length-map}
use Rattle.std.proofs.lemmas.List.FromFn.{length-range_with_len}
use Rattle.std.proofs.lemmas.Bool.Decides.{nat_tests}
use Rattle.std.proofs.lemmas.Option.{get_or_from_slice_get, slice_get-get_or, slice_get_within}
use Rattle.scenario_values.specs.Scenario.{Entries, all_faults}
use Rattle.scenario_values.specs.Keep.{are_faults}
use Rattle.scenario_values.proofs.Sets.{all_are_faults, without_are_faults}
use Rattle.target_trait.specs.declared.judgement.Verdict.{Verdict}
use Rattle.target_trait.specs.declared.judgement.Verdict.TheVariants as verdict
use Rattle.action_eval.specs.Answers.{given_of}
use Rattle.grown_plans.specs.Runs.{Met, run}
use Rattle.grown_plans.specs.GrownPlans.{Subject}
use Rattle.grown_plans.proofs.Members.{contains_map}
use Rattle.result_book.specs.Verdicts.{numbered, verdicts_from}
use Rattle.result_book.specs.FirstFailures.{first_failures, AreFirstFailures}
use Rattle.result_book.specs.FirstFailure.{FailsAt}
use Rattle.result_book.proofs.EachCodeLemmas.{firsts_of}
use Rattle.result_book.proofs.SlotLemmas.{length_verdicts}
use Rattle.report.specs.Reports.{FindingFacts, GrowthFacts}
use Rattle.campaign_core.specs.promises.Told.{Told, HasVerdict, count_of_all}
use Rattle.campaign_core.specs.promises.Promises.{IsFirst}
use Rattle.campaign_core.specs.promises.Further.{Further, IsLeast, IsLeastCause, IsReduction, verdict_of, without}
use Rattle.campaign_core.specs.FaultTest.{fails_with}
use Rattle.campaign_core.specs.Findings.{finding, report_of, IsMinimal, ReducesToMinimal}
use Rattle.campaign_core.specs.Headline.{Campaign, grower, say}

pub own_code : (code : ℕ) (v : Verdict) → fails_with code v ≡ true → v ≡ verdict.Fail code
own_code code verdict.Pass e = absurd cc
own_code code verdict.Unresolved e = absurd cc
own_code code (verdict.Fail other) e = ap (λ (c : ℕ). verdict.Fail c) (let goal : other ≡ code = grind (arith, nat_tests, e) in goal)

not_own : (code : ℕ) (v : Verdict) → fails_with code v ≡ false → v ≢ verdict.Fail code
not_own code v fine is = let own : fails_with code (verdict.Fail code) ≡ true = eq-eqb code code refl in let e : true ≡ false = sym own ∙ ap (fails_with code) (sym is) ∙ fine in absurd cc

right_fails : (a b : Bool) → a ≡ true → (a && b) ≡ false → b ≡ false
right_fails a b left e = ap (λ c. c && b) (sym left) ∙ e

-- a scenario that is minimal: without any one of its faults it doesn't fail
without_one : (asked : Entries → Verdict) (code : ℕ) (s : Entries) → IsMinimal asked code s → (fault : ℕ) → fault < all_faults s → asked (without fault s) ≢ verdict.Fail code
without_one asked code s m fault low =
    let all : List ℕ = range_with_len 0 (all_faults s) in
    let size = length-range_with_len 0 (all_faults s) in
    not_own code (asked (without fault s))
    (right_fails (are_faults (all_faults s) (remove all fault)) (fails_with code (asked (without fault s)))
    (without_are_faults (all_faults s) fault all (all_are_faults (all_faults s))) (m.1.each fault (omega (arith, low, size))))

-- the verdict of the plan of a number is the one by that number
pub verdict_at : (say : ℕ → Entries → Verdict) (from : ℕ) (entries : List Entries) (n : ℕ) (s : Entries) → slice_get entries n ≡ Some s → slice_get (verdicts_from say from entries) n ≡ Some (say (from + n) s)
verdict_at say from [] n s e = absurd cc
verdict_at say from (x ∷ entries) zero s e = ap (λ (y : Entries). Some (say from y)) (let same : x ≡ s = cc in same) ∙ ap (λ k. Some (say k s)) (let goal : from ≡ from + 0 = omega arith in goal)
verdict_at say from (x ∷ entries) (suc n) s e = verdict_at say (from + 1) entries n s e ∙ ap (λ k. Some (say k s)) (let goal : from + 1 + n ≡ from + suc n = omega arith in goal)

at_number : (vs : List Verdict) (n code : ℕ) → FailsAt vs n code → slice_get vs n ≡ Some (verdict.Fail code)
at_number [] n code e = absurd cc
at_number (v ∷ vs) zero code e = ap (λ (x : Verdict). Some x) e
at_number (v ∷ vs) (suc n) code e = at_number vs n code e

-- What Further says of causes.
pub record Causes (t : Subject) (entries : List Entries) (told : Told) : Type 0 where
  pub least : All (IsLeastCause t entries told) told.growth.causes
  pub each : (number code : ℕ) (s : Entries) → number < count_of_all told → slice_get entries number ≡ Some s → verdict_of t told number s ≡ verdict.Fail code
      → IsLeast t told number code s → Contains told.growth.causes (record { number = number; code = code; scenario = s })
  pub in_order : AllPairs (λ c d. c.number < d.number) told.growth.causes

module _ (c : Campaign) (label counts : List ℕ) (entries : List Entries) (growth : Option GrowthFacts) (grew : GrowthFacts) (behaviours : List (List Met))
    (minimal : All (ReducesToMinimal (say c)) (report_of (say c) label c.given.plans.seed counts entries growth).findings) where
  abbrev told : Told
  told = record { report = report_of (say c) label c.given.plans.seed counts entries growth; growth = grew; behaviours = behaviours }

  abbrev firsts : List (ℕ × ℕ)
  firsts = first_failures (numbered told.report.verdicts)

  are : AreFirstFailures (FailsAt told.report.verdicts) firsts
  are = firsts_of told.report.verdicts

  -- what is reported of the first failure at a place
  pub first_at : (n : ℕ) (none : FindingFacts) → n < length told.report.findings → IsFirst told (slice_index_or told.report.findings n none)
  first_at n none low =
      let size = length-map firsts (finding (say c) entries) in
      let inside : n < length firsts = omega (arith, low, size) in
      let first : ℕ × ℕ = slice_index_or firsts n (0, 0) in
      let here : slice_index_or told.report.findings n none ≡ finding (say c) entries first = get_or-map (finding (say c) entries) firsts n (0, 0) none inside in
      let least = are.least n (0, 0) inside in
      subst (IsFirst told) (sym here) (record {
        fails = at_number told.report.verdicts first.0 first.1 least.0;
        least = λ other less comes. least.1 other less (get_or_from_slice_get told.report.verdicts other (verdict.Fail first.1) verdict.Pass comes);
      })

  pub found_of : (number code : ℕ) → HasVerdict told number (verdict.Fail code) → (f : FindingFacts) × Contains told.report.findings f × (f.code ≡ code)
  found_of number code comes =
      let some = are.complete number code (get_or_from_slice_get told.report.verdicts number (verdict.Fail code) verdict.Pass comes) in
      (finding (say c) entries some.1, contains_map (finding (say c) entries) firsts some.1 (some.0, some.2, some.3), some.4)

  pub once_each : AllPairs (λ (f g : FindingFacts). (f.number < g.number) × (f.code ≢ g.code)) told.report.findings
  once_each i j none less low =
      let size = length-map firsts (finding (say c) entries) in
      let inside : j < length firsts = omega (arith, low, size) in
      let a = get_or-map (finding (say c) entries) firsts i (0, 0) none (omega (arith, less, inside)) in
      let b = get_or-map (finding (say c) entries) firsts j (0, 0) none inside in
      let ascend = are.ascending i j (0, 0) less inside in
      let earlier = ap (λ (f : FindingFacts). f.number) a in
      let later = ap (λ (f : FindingFacts). f.number) b in (
        omega (arith, ascend, earlier, later),
        λ same. are.distinct i j (0, 0) less inside (sym (ap (λ (f : FindingFacts). f.code) a) ∙ same ∙ ap (λ (f : FindingFacts). f.code) b),
      )

  -- ---- scenarios

  judged_at : (number : ℕ) (s : Entries) → slice_get entries number ≡ Some s → HasVerdict told number (say c number s)
  judged_at number s at = verdict_at (say c) 0 entries number s at ∙ ap (λ (n : ℕ). Some (say c n s)) (let none : 0 + number ≡ number = omega arith in none)

  pub reduction_at : (n : ℕ) (none : FindingFacts) → n < length told.report.findings → IsReduction (grower c) entries told (slice_index_or told.report.findings n none)
  reduction_at n none low =
      let size = length-map firsts (finding (say c) entries) in
      let inside : n < length firsts = omega (arith, low, size) in
      let first : ℕ × ℕ = slice_index_or firsts n (0, 0) in
      let f : FindingFacts = finding (say c) entries first in
      let here : slice_index_or told.report.findings n none ≡ f = get_or-map (finding (say c) entries) firsts n (0, 0) none inside in
      let reduces : ReducesToMinimal (say c) f = subst (ReducesToMinimal (say c)) here (minimal n none low) in
      let fails = at_number told.report.verdicts first.0 first.1 (are.least n (0, 0) inside).0 in
      let within : first.0 < length told.report.verdicts = slice_get_within told.report.verdicts first.0 (verdict.Fail first.1) fails in
      let counted = length_verdicts (say c) 0 entries in
      subst (IsReduction (grower c) entries told) (sym here) (record {
        scenario = slice_get-get_or entries first.0 [] (omega (arith, within, counted));
        kept_are = refl;
        tests = refl;
        fails = own_code first.1 (say c first.0 f.reduced) reduces.0;
        minimal = without_one (say c first.0) first.1 f.reduced reduces;
      })

  abbrev Plays : Type 0
  Plays = (number : ℕ) (s : Entries) (hits : List Met) → slice_get entries number ≡ Some s → slice_get behaviours number ≡ Some hits
      → run c.asks (given_of s c.points c.given.plans.seed number c.given.max_hits) ≡ hits

  pub further : Plays → Causes (grower c) entries told → Further (grower c) entries told
  further plays causes = record {
    all_told = length_verdicts (say c) 0 entries;
    judged = judged_at;
    plays = plays;
    findings = reduction_at;
    causes = causes.least;
    each_cause = causes.each;
    in_order = causes.in_order;
  }
