-- The causes of a list of plans: each one's scenario needs each of its faults, each plan whose scenario does so is listed, and they are in order.
use Rattle.std.proofs.Common.{◌≡◌, ◌≢◌, ℕ, zero, suc, ◌+◌, ◌<◌, ◌≤◌, ◌==◌, ◌&&◌, not, Bool, true, false, cond, Some, All, List, [], ◌∷◌, map, length, refl, ap, sym, ◌∙◌, subst, arith}
use Rattle.std.specs.Prelude.{AllPairs, Contains, flat_map, slice_get, slice_index_or}
use Rattle.std.specs.List.{AllByRecursion, list_all, range_with_len}
use Rattle.std.proofs.lemmas.Bool.Decides.{nat_tests}
use Rattle.std.proofs.lemmas.List.Elements.{Contains-append_left, Contains-append_right}
use Rattle.std.proofs.lemmas.Option.{get_or_from_slice_get, slice_get-get_or, slice_get_within}
use Rattle.scenario_values.specs.Scenario.{Entries}
use Rattle.action_eval.specs.declared.rig.Rig.{Rig}
use Rattle.target_trait.specs.Outcomes.{verdict_with}
use Rattle.target_trait.specs.declared.judgement.Verdict.{Verdict}
use Rattle.target_trait.specs.declared.judgement.Verdict.TheVariants as verdict
use Rattle.grown_plans.specs.GrownPlans.{Subject, rigs_of, scenario_of}
use Rattle.grown_plans.specs.Promises.{EachTwo, IsCause, IsLawful, lesser, verdict_of_rigs}
use Rattle.grown_plans.proofs.Members.{all_append, all_weaker, contains_head, contains_map, two_append, two_map}
use Rattle.grown_plans.proofs.Paths.{some_is}
use Rattle.grown_runs.specs.GrownRuns.{over, verdict_by, fails_with, is_least, cause_by, cause_at}
use Rattle.report.specs.Reports.{CauseFacts}
use Rattle.campaign_core.specs.Findings.{IsCauseAmong, cause_of}
use Rattle.campaign_core.specs.promises.Told.{Told}
use Rattle.campaign_core.specs.promises.Further.{IsLeast, IsLeastCause, verdict_of}
use Rattle.campaign_core.proofs.PromisesLemmas.LeftOut.{CanBeLeft, cause_least, least_cause, numbered}
use Rattle.campaign_core.proofs.PromisesLemmas.Numbers.{all_at}

-- ---- a cause is listed

none_fails : (code : ℕ) (v : Verdict) → v ≢ verdict.Fail code → not (fails_with code v) ≡ true
none_fails code verdict.Pass n = refl
none_fails code verdict.Unresolved n = refl
none_fails code (verdict.Fail other) n = by_test (other == code) refl
  where
    by_test : (b : Bool) → (other == code) ≡ b → not (other == code) ≡ true
    by_test true e = let same : other ≡ code = grind (arith, nat_tests, e) in absurd (n (ap (λ (c : ℕ). verdict.Fail c) same))
    by_test false e = ap not e

both : (a b : Bool) → a ≡ true → b ≡ true → (a && b) ≡ true
both a b e h = ap (λ c. c && b) e ∙ h

all_pass : (t : Subject) (seed stream code : ℕ) (lists : List (List Rig)) → AllByRecursion (λ rigs. verdict_of_rigs t seed stream rigs ≢ verdict.Fail code) lists
    → list_all (λ less. not (fails_with code (verdict_by t seed stream less))) lists ≡ true
unfolding verdict_with
all_pass t seed stream code [] a = refl
all_pass t seed stream code (less ∷ lists) a =
    both (not (fails_with code (verdict_by t seed stream less))) (list_all (λ less. not (fails_with code (verdict_by t seed stream less))) lists)
    (none_fails code (verdict_by t seed stream less) a.0) (all_pass t seed stream code lists a.1)

-- the plan of a number, as a cause
pub cause_here : (t : Subject) (seed n code : ℕ) (plan : List Rig) → IsCause t seed n code plan → cause_at t seed n plan ≡ (n, code) ∷ []
unfolding verdict_with
cause_here t seed n code plan cause =
    ap (cause_by t seed n (rigs_of plan)) cause.0 ∙ ap (λ b. cond b ((n, code) ∷ []) []) (all_pass t seed n code (lesser (rigs_of plan)) cause.1)

pub in_flat : {A B : Type 0} (f : ℕ → A → List B) (d : A) (xs : List A) (from count k : ℕ) (x : A) (y : B) → k < count → slice_get xs (from + k) ≡ Some x → f (from + k) x ≡ y ∷ []
    → Contains (flat_map (λ n. f n (slice_index_or xs n d)) (range_with_len from count)) y
in_flat f d xs from zero k x y low at is = absurd (omega (arith, low))
in_flat {A} {B} f d xs from (suc count) zero x y low at is =
    let same : from + 0 ≡ from = omega arith in
    let here : slice_get xs from ≡ Some x = ap (λ n. slice_get xs n) (sym same) ∙ at in
    let one : f from (slice_index_or xs from d) ≡ y ∷ [] = ap (f from) (get_or_from_slice_get xs from x d here) ∙ ap (λ n. f n x) (sym same) ∙ is in
    Contains-append_left (f from (slice_index_or xs from d)) (flat_map (λ n. f n (slice_index_or xs n d)) (range_with_len (from + 1) count)) y
    (subst (λ (l : List B). Contains l y) (sym one) (contains_head y []))
in_flat {A} {B} f d xs from (suc count) (suc k) x y low at is =
    let same : from + suc k ≡ from + 1 + k = omega arith in
    Contains-append_right (f from (slice_index_or xs from d)) (flat_map (λ n. f n (slice_index_or xs n d)) (range_with_len (from + 1) count)) y
    (in_flat f d xs (from + 1) count k x y (omega (arith, low)) (ap (λ n. slice_get xs n) (sym same) ∙ at) (ap (λ n. f n x) (sym same) ∙ is))

-- ---- causes are in the order of their numbers

abbrev IsOfNumber : ℕ → ℕ × ℕ → Type 0
IsOfNumber n c = c.0 ≡ n

abbrev IsBelow : ℕ × ℕ → ℕ × ℕ → Type 0
IsBelow a b = a.0 < b.0

-- a plan gives at most one, of its own number
record AtMostOne (n : ℕ) (causes : List (ℕ × ℕ)) : Type 0 where
  own : AllByRecursion (IsOfNumber n) causes
  once : EachTwo IsBelow causes

one_cause : (t : Subject) (seed n : ℕ) (rigs : List Rig) (v : Verdict) → AtMostOne n (cause_by t seed n rigs v)
one_cause t seed n rigs verdict.Pass = record { own = tt; once = tt }
one_cause t seed n rigs (verdict.Fail code) = by_test (is_least t seed n code rigs)
  where
    by_test : (b : Bool) → AtMostOne n (cond b ((n, code) ∷ []) [])
    by_test true = record { own = (refl, tt); once = (tt, tt) }
    by_test false = record { own = tt; once = tt }
one_cause t seed n rigs verdict.Unresolved = record { own = tt; once = tt }

module _ (t : Subject) (seed : ℕ) (plans : List (List Rig)) where
  abbrev at_number : ℕ → List (ℕ × ℕ)
  at_number n = cause_at t seed n (slice_index_or plans n [])

  one_at : (n : ℕ) → AtMostOne n (at_number n)
  one_at n = let rigs : List Rig = rigs_of (slice_index_or plans n []) in one_cause t seed n rigs (verdict_by t seed n rigs)

  from_on : (from count : ℕ) → AllByRecursion (λ c. from ≤ c.0) (flat_map at_number (range_with_len from count))
  from_on from zero = tt
  from_on from (suc count) =
      all_append (λ c. from ≤ c.0) (at_number from) (flat_map at_number (range_with_len (from + 1) count))
      (all_weaker (IsOfNumber from) (λ c. from ≤ c.0) (λ c e. omega (arith, e)) (at_number from) (one_at from).own)
      (all_weaker (λ (c : ℕ × ℕ). from + 1 ≤ c.0) (λ c. from ≤ c.0) (λ c e. omega (arith, e)) (flat_map at_number (range_with_len (from + 1) count)) (from_on (from + 1) count))

  ascending : (from count : ℕ) → EachTwo IsBelow (flat_map at_number (range_with_len from count))
  ascending from zero = tt
  ascending from (suc count) =
      let rest : List (ℕ × ℕ) = flat_map at_number (range_with_len (from + 1) count) in
      two_append IsBelow (at_number from) rest (one_at from).once (ascending (from + 1) count)
      (all_weaker (IsOfNumber from) (λ a. AllByRecursion (IsBelow a) rest)
      (λ a e. all_weaker (λ (c : ℕ × ℕ). from + 1 ≤ c.0) (IsBelow a) (λ c h. omega (arith, e, h)) rest (from_on (from + 1) count)) (at_number from) (one_at from).own)

pairs_of : {A : Type 0} (R : A → A → Type 0) (xs : List A) → EachTwo R xs → AllPairs R xs
pairs_of R [] e i j none less low = absurd (omega (arith, low))
pairs_of R (x ∷ xs) e i zero none less low = absurd (omega (arith, less))
pairs_of R (x ∷ xs) e zero (suc j) none less low = numbered (R x) none xs e.0 j (omega (arith, low))
pairs_of R (x ∷ xs) e (suc i) (suc j) none less low = pairs_of R xs e.1 i j none (omega (arith, less)) (omega (arith, low))

-- ---- the causes that a report lists

module _ (t : Subject) (told : Told) (entries : List Entries) (plans : List (List Rig))
    (are : told.growth.causes ≡ map (cause_of entries) (over (cause_at t told.report.seed) plans 0 (length plans))) where
  pub listed : (n code : ℕ) (plan : List Rig) → slice_get plans n ≡ Some plan → IsCause t told.report.seed n code plan → Contains told.growth.causes (cause_of entries (n, code))
  listed n code plan at cause =
      let seed : ℕ = told.report.seed in
      let size : n < length plans = slice_get_within plans n plan at in
      let zero_plus : 0 + n ≡ n = omega arith in
      let one : cause_at t seed (0 + n) plan ≡ (n, code) ∷ [] = ap (λ i. cause_at t seed i plan) zero_plus ∙ cause_here t seed n code plan cause in
      subst (λ (causes : List CauseFacts). Contains causes (cause_of entries (n, code))) (sym are)
      (contains_map (cause_of entries) (over (cause_at t seed) plans 0 (length plans)) (n, code)
      (in_flat (cause_at t seed) [] plans 0 (length plans) n plan (n, code) size (ap (λ i. slice_get plans i) zero_plus ∙ at) one))

  pub in_order : AllPairs (λ c d. c.number < d.number) told.growth.causes
  in_order =
      subst (AllPairs (λ (c d : CauseFacts). c.number < d.number)) (sym are)
      (pairs_of (λ (c d : CauseFacts). c.number < d.number) (map (cause_of entries) (over (cause_at t told.report.seed) plans 0 (length plans)))
      (two_map (λ (c d : CauseFacts). c.number < d.number) (cause_of entries) (over (cause_at t told.report.seed) plans 0 (length plans))
      (ascending t told.report.seed plans 0 (length plans))))

module _ (t : Subject) (l : IsLawful t) (told : Told) (entries : List Entries) (plans : List (List Rig)) (can : AllByRecursion (λ plan. CanBeLeft t (rigs_of plan)) plans)
    (plan_at : (n : ℕ) (plan : List Rig) → slice_get plans n ≡ Some plan → slice_get entries n ≡ Some (scenario_of t plan)) where
  pub least_causes : All (IsCauseAmong t told.report.seed plans) told.growth.causes → All (IsLeastCause t entries told) told.growth.causes
  least_causes among n none low =
      let c : CauseFacts = slice_index_or told.growth.causes n none in
      let is : IsCauseAmong t told.report.seed plans c = among n none low in
      let plan : List Rig = slice_index_or plans c.number [] in
      let at : slice_get plans c.number ≡ Some plan = slice_get-get_or plans c.number [] is.among in
      record {
        scenario = plan_at c.number plan at ∙ ap (λ (s : Entries). Some s) (sym is.scenario);
        minimal = subst (IsLeast t told c.number c.code) (sym is.scenario) (cause_least t l told c.number c.code plan (all_at (λ plan. CanBeLeft t (rigs_of plan)) plans c.number plan can at) is.least);
      }

  pub each_least : told.growth.causes ≡ map (cause_of entries) (over (cause_at t told.report.seed) plans 0 (length plans)) → (number code : ℕ) (s : Entries) → number < length plans → slice_get entries number ≡ Some s → verdict_of t told number s ≡ verdict.Fail code
      → IsLeast t told number code s → Contains told.growth.causes (record { number = number; code = code; scenario = s })
  each_least are number code s low at fails least =
      let plan : List Rig = slice_index_or plans number [] in
      let grew : slice_get plans number ≡ Some plan = slice_get-get_or plans number [] low in
      let same : s ≡ scenario_of t plan = some_is s (scenario_of t plan) (sym at ∙ plan_at number plan grew) in
      let is : IsCause t told.report.seed number code plan =
      least_cause t l told number code plan (all_at (λ plan. CanBeLeft t (rigs_of plan)) plans number plan can grew)
      (ap (λ (es : Entries). verdict_of t told number es) (sym same) ∙ fails) (subst (IsLeast t told number code) same least)
      in
      subst (λ (es : Entries). Contains told.growth.causes (record { number = number; code = code; scenario = es })) (get_or_from_slice_get entries number s [] at) (listed t told entries plans are number code plan grew is)
