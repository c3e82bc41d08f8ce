-- The first failures, and what a report says of them.
use Rattle.std.proofs.Common.{◌≡◌, ℕ, zero, suc, ◌+◌, ◌<◌, true, Option, option_map, slice_get, List, [], ◌∷◌, length, get_or, map, All, refl, sym, ap}
use Rattle.std.proofs.Common.{◌∙◌, arith, eq-eqb, zero-add, add-zero}
use Rattle.std.proofs.lemmas.List.Elements.{All-map}
use Rattle.scenario_values.specs.Scenario.{Entries, DistinctNames}
use Rattle.action_eval.specs.Answers.{Reply}
use Rattle.target_trait.specs.Play.{Move}
use Rattle.target_trait.specs.Outcomes.{verdict_with}
use Rattle.target_trait.specs.declared.judgement.Verdict.{Verdict}
use Rattle.target_trait.specs.declared.judgement.Verdict.TheVariants as verdict
use Rattle.result_book.specs.Verdicts.{verdicts_from, numbered}
use Rattle.result_book.specs.FirstFailure.{FailsAt}
use Rattle.result_book.specs.FirstFailures.{first_failures, AreFirstFailures}
use Rattle.report.specs.Reports.{FindingFacts, GrowthFacts, ReportFacts}
use Rattle.campaign_core.specs.FaultTest.{fails_with}
use Rattle.campaign_core.specs.Findings.{finding, reduced, reduction, report_of, IsFailure, ReducesToMinimal}
use Rattle.campaign_core.proofs.Minimal.{reduced_minimal}

-- a number that fails is that of a plan that fails
plan_fails : (say : ℕ → Entries → Verdict) (n : ℕ) (plans : List Entries) (i code : ℕ) → get_or (verdicts_from say n plans) i verdict.Pass ≡ verdict.Fail code
    → (i < length plans) × (say (n + i) (get_or plans i []) ≡ verdict.Fail code)
plan_fails say n [] i code is = absurd cc
plan_fails say n (plan ∷ plans) zero code is = (omega arith, ap (λ k. say k plan) (add-zero n) ∙ is)
plan_fails say n (plan ∷ plans) (suc i) code is =
    let later = plan_fails say (n + 1) plans i code is in
    let at : n + suc i ≡ n + 1 + i = omega arith in
    ((let e = later.0 in omega (arith, e)), ap (λ k. say k (get_or plans i [])) at ∙ later.1)

-- each first failure is that of a plan that fails
pub each_fails : (say : ℕ → Entries → Verdict) (plans : List Entries) (firsts : List (ℕ × ℕ)) → AreFirstFailures (FailsAt (verdicts_from say 0 plans)) firsts
    → All (IsFailure say plans) firsts
each_fails say plans firsts are k d lt =
    let f : ℕ × ℕ = get_or firsts k d in
    let here = plan_fails say 0 plans f.0 f.1 (are.least k d lt).0 in
    (here.0, ap (λ i. say i (get_or plans f.0 [])) (sym (zero-add f.0)) ∙ here.1)

-- it fails with its code
pub failure_fails : (say : ℕ → Entries → Verdict) (plans : List Entries) (first : ℕ × ℕ) → IsFailure say plans first
    → fails_with first.1 (say first.0 (get_or plans first.0 [])) ≡ true
failure_fails say plans first fails = ap (fails_with first.1) fails.1 ∙ eq-eqb first.1 first.1 refl

-- What is reported of each first failure: what it is reduced to fails, and no single fault can be left out of it.
pub findings_minimal : (asks : List Reply → Move) (names : List (List ℕ)) (seed limit : ℕ) (plans : List Entries) (firsts : List (ℕ × ℕ))
    → All (λ s. DistinctNames s) plans
    → All (IsFailure (verdict_with asks names seed limit) plans) firsts
    → All (ReducesToMinimal (verdict_with asks names seed limit)) (map (finding (verdict_with asks names seed limit) plans) firsts)
findings_minimal asks names seed limit plans firsts distinct fail =
    let say : ℕ → Entries → Verdict = verdict_with asks names seed limit in
    All-map (ReducesToMinimal say) (finding say plans) firsts
    (λ k d lt. let f : ℕ × ℕ = get_or firsts k d in
    let fails : IsFailure say plans f = fail k d lt in
    reduced_minimal asks names seed limit f.0 f.1 (get_or plans f.0 []) (distinct f.0 [] fails.0) (failure_fails say plans f fails))

-- what was found is what the definition says
pub found_is : (say : ℕ → Entries → Verdict) (plans : List Entries) (number code tests stream : ℕ) (scenario left : Entries)
    → scenario ≡ get_or plans number [] → stream ≡ number → left ≡ reduced say stream code scenario → tests ≡ (reduction say stream code scenario).tests
    → (let f : FindingFacts = record { number = number; code = code; scenario = scenario; reduced = left; tests = tests } in f)
    ≡ finding say plans (number, code)
found_is say plans number code tests stream scenario left plan same_stream same_left same_tests =
    let planned : Entries = get_or plans number [] in
    let left_is : left ≡ reduced say number code planned = same_left ∙ ap (λ k. reduced say k code scenario) same_stream ∙ ap (reduced say number code) plan in
    let tests_is : tests ≡ (reduction say number code planned).tests =
    same_tests ∙ ap (λ k. (reduction say k code scenario).tests) same_stream ∙ ap (λ s. (reduction say number code s).tests) plan in
    let made : Entries → Entries → ℕ → FindingFacts = λ s l n. record { number = number; code = code; scenario = s; reduced = l; tests = n } in
    ap (λ s. made s left tests) plan ∙ ap (λ l. made planned l tests) left_is ∙ ap (made planned (reduced say number code planned)) tests_is

-- what a report is made of is what the definition says
pub report_is : (say : ℕ → Entries → Verdict) (label : List ℕ) (seed : ℕ) (census : List ℕ) (plans : List Entries) (growth : Option GrowthFacts)
    (name : List ℕ) (same_seed : ℕ) (clean : Verdict) (counts : List ℕ) (vs : List Verdict) (told : List FindingFacts) (grew : Option GrowthFacts)
    → name ≡ label → same_seed ≡ seed → clean ≡ get_or vs 0 verdict.Unresolved → counts ≡ census → vs ≡ verdicts_from say 0 plans
    → told ≡ map (finding say plans) (first_failures (numbered (verdicts_from say 0 plans)))
    → grew ≡ growth
    → (let r : ReportFacts = record { label = name; seed = same_seed; clean = clean; census = counts; verdicts = vs; unmet = 0; findings = told; growth = grew } in r)
    ≡ report_of say label seed census plans growth
report_is say label seed census plans growth name s clean counts vs told grew same_name same_seed same_clean same_counts same same_told same_growth =
    let made : List ℕ → ℕ → Verdict → List ℕ → List Verdict → List FindingFacts → Option GrowthFacts → ReportFacts =
    λ n s c k v f g. record { label = n; seed = s; clean = c; census = k; verdicts = v; unmet = 0; findings = f; growth = g } in
    let first : List Verdict → Verdict = λ v. get_or v 0 verdict.Unresolved in
    ap (λ n. made n s clean counts vs told grew) same_name ∙ ap (λ z. made label z clean counts vs told grew) same_seed
    ∙ ap (λ c. made label seed c counts vs told grew) same_clean ∙ ap (λ k. made label seed (first vs) k vs told grew) same_counts
    ∙ ap (λ v. made label seed (first v) census v told grew) same
    ∙ ap (λ f. made label seed (first (verdicts_from say 0 plans)) census (verdicts_from say 0 plans) f grew) same_told
    ∙ ap (made label seed (first (verdicts_from say 0 plans)) census (verdicts_from say 0 plans) (map (finding say plans) (first_failures (numbered (verdicts_from say 0 plans))))) same_growth

-- the first of the first failures, by results over the same plans
pub first_is : (say : ℕ → Entries → Verdict) (given plans : List Entries) (firsts : List (ℕ × ℕ)) (number : Option ℕ)
    → number ≡ option_map (λ (f : ℕ × ℕ). f.0) (slice_get firsts 0) → firsts ≡ first_failures (numbered (verdicts_from say 0 given)) → given ≡ plans
    → number ≡ option_map (λ (f : ℕ × ℕ). f.0) (slice_get (first_failures (numbered (verdicts_from say 0 plans))) 0)
first_is say given plans firsts number is are same =
    is ∙ ap (λ (fs : List (ℕ × ℕ)). option_map (λ (f : ℕ × ℕ). f.0) (slice_get fs 0)) (are ∙ ap (λ ps. first_failures (numbered (verdicts_from say 0 ps))) same)
