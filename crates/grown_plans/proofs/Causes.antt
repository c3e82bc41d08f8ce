-- Each plan that fails has a cause among the plans of the levels.
use Rattle.std.proofs.Common.{◌≡◌, ℕ, zero, suc, ◌<◌, ◌≤◌, ◌⊎◌, inl, inr, false, List, [], ◌∷◌, map, length, refl, ap, sym, ◌∙◌, subst, arith}
use Rattle.std.specs.Prelude.{Contains}
use Rattle.std.specs.List.{AllByRecursion}
use Rattle.std.proofs.lemmas.Bool.{cases_eq}
use Rattle.action_eval.specs.declared.rig.Site.{Site}
use Rattle.action_eval.specs.declared.rig.Rig.{Rig}
use Rattle.action_eval.specs.Answers.{given_of}
use Rattle.action_eval.specs.RiggedScenario.{rigged_scenario}
use Rattle.target_trait.specs.Outcomes.{judged}
use Rattle.target_trait.specs.declared.judgement.Verdict.{Verdict}
use Rattle.target_trait.specs.declared.judgement.Verdict.TheVariants.{Pass, Fail, Unresolved}
use Rattle.plan_gen.specs.RiggedAnswers.{AreInOrder, IsBefore, is_onward, rigged_reply}
use Rattle.grown_plans.specs.Runs.{Met, run, acting}
use Rattle.grown_plans.specs.GrownPlans.{Subject, in_order, rigs_of, level, levels}
use Rattle.grown_plans.specs.Promises.{IsLawful, FaultCase, run_in, verdict_of_rigs, verdict_of_plan, lesser, IsCause, HasCauses}
use Rattle.grown_plans.proofs.Members.{all_weaker, all_map, all_both, all_contains, all_contained, all_or}
use Rattle.grown_plans.proofs.Paths.{replies_of, same_path}
use Rattle.grown_plans.proofs.RiggedScenarios.{rigs_order, all_in_order, length_in_order, merged_once}
use Rattle.grown_plans.proofs.PlanRuns.{rigs_answered, rigs_judged, rigs_path}
use Rattle.grown_plans.proofs.Faults.{faults}
use Rattle.grown_plans.proofs.Levels.{IsGrown, level_grown}
use Rattle.grown_plans.proofs.Apart.{IsGrownTo, level_in_levels, levels_grown}
use Rattle.grown_plans.proofs.Cases.{case_plan, case_in_level, rigs_case, rigs_faults, rigs_few}

abbrev sites : List Rig → List Site
sites rs = map (λ r. r.site) rs

-- ---- with one member left out

lesser_all : (P : Rig → Type 0) (rs : List Rig) → AllByRecursion P rs → AllByRecursion (λ less. AllByRecursion P less) (lesser rs)
lesser_all P [] a = tt
lesser_all P (r ∷ rs) a =
    (a.1, all_map (λ less. AllByRecursion P less) (λ less. r ∷ less) (lesser rs) (all_weaker (λ less. AllByRecursion P less) _ (λ less h. (a.0, h)) (lesser rs) (lesser_all P rs a.1)))

lesser_length : (rs : List Rig) → AllByRecursion (λ less. suc (length less) ≡ length rs) (lesser rs)
lesser_length [] = tt
lesser_length (r ∷ rs) =
    (refl, all_map (λ less. suc (length less) ≡ suc (length rs)) (λ less. r ∷ less) (lesser rs) (all_weaker (λ less. suc (length less) ≡ length rs) _ (λ less h. ap (λ n. suc n) h) (lesser rs) (lesser_length rs)))

unmapped : (P : Site → Type 0) (xs : List Rig) → AllByRecursion P (sites xs) → AllByRecursion (λ x. P x.site) xs
unmapped P [] a = tt
unmapped P (x ∷ xs) a = (a.0, unmapped P xs a.1)

lesser_order : (rs : List Rig) → AreInOrder (sites rs) → AllByRecursion (λ less. AreInOrder (sites less)) (lesser rs)
lesser_order [] o = tt
lesser_order (r ∷ rs) o = (
  o.2,
  all_map (λ less. AreInOrder (sites less)) (λ less. r ∷ less) (lesser rs)
      (all_weaker (λ less. AllByRecursion (λ x. IsBefore r.site x.site) less × AreInOrder (sites less)) _ (λ less h. (o.0, all_map (IsBefore r.site) (λ (x : Rig). x.site) less h.0, h.1)) (lesser rs)
      (all_both (λ less. AllByRecursion (λ x. IsBefore r.site x.site) less) (λ less. AreInOrder (sites less)) (lesser rs) (lesser_all (λ x. IsBefore r.site x.site) rs (unmapped (IsBefore r.site) rs o.1)) (lesser_order rs o.2))),
)

-- ---- a plan without one of its faults

rigs_all : (t : Subject) (n : ℕ) (plan : List Rig) → IsGrown t n plan → (P : Rig → Type 0) → AllByRecursion P plan → AllByRecursion P (rigs_of plan)
rigs_all t n plan g P a = subst (AllByRecursion P) (sym (merged_once (in_order plan) (all_in_order (λ r. is_onward r.kind ≡ false) plan g.once))) (all_in_order P plan a)

rigs_length : (t : Subject) (n : ℕ) (plan : List Rig) → IsGrown t n plan → length (rigs_of plan) ≡ n
rigs_length t n plan g =
    ap (λ (x : List Rig). length x) (merged_once (in_order plan) (all_in_order (λ r. is_onward r.kind ≡ false) plan g.once)) ∙ length_in_order plan ∙ g.count

record IsLess (t : Subject) (n : ℕ) (plan rigs : List Rig) : Type 0 where
  order : AreInOrder (sites rigs)
  kinds : AllByRecursion (λ r. Contains (t.kinds r.site.point) r.kind) rigs
  part : AllByRecursion (Contains plan) rigs
  fewer : suc (length rigs) ≡ n

are_less : (t : Subject) (n : ℕ) (plan : List Rig) → IsGrown t n plan → (rigs : List Rig) → Contains (lesser (rigs_of plan)) rigs → IsLess t n plan rigs
are_less t n plan g rigs c =
    let whole : List Rig = rigs_of plan in
    record {
      order = all_contains (λ less. AreInOrder (sites less)) (lesser whole) rigs (lesser_order whole (rigs_order plan g.can)) c;
      kinds = all_contains (λ less. AllByRecursion (λ r. Contains (t.kinds r.site.point) r.kind) less) (lesser whole) rigs (lesser_all (λ r. Contains (t.kinds r.site.point) r.kind) whole (rigs_all t n plan g (λ r. Contains (t.kinds r.site.point) r.kind) g.kinds)) c;
      part = all_contains (λ less. AllByRecursion (Contains plan) less) (lesser whole) rigs (lesser_all (Contains plan) whole (rigs_all t n plan g (Contains plan) (all_contained plan))) c;
      fewer = all_contains (λ less. suc (length less) ≡ length whole) (lesser whole) rigs (lesser_length whole) c ∙ rigs_length t n plan g;
    }

-- which seed and stream number rigged hits run under makes no difference
rigs_same : (t : Subject) → IsLawful t → (rigs : List Rig) → AreInOrder (sites rigs) → (seed stream seed' stream' : ℕ) → verdict_of_rigs t seed stream rigs ≡ verdict_of_rigs t seed' stream' rigs
rigs_same t l rigs o seed stream seed' stream' =
    let g = given_of (rigged_scenario t.names rigs) t.names seed stream t.limit in
    let g' = given_of (rigged_scenario t.names rigs) t.names seed' stream' t.limit in
    rigs_judged t rigs seed stream
    ∙ ap (λ ms. judged (t.asks (replies_of ms))) (same_path t.asks (λ s. rigged_reply rigs s.point s.hit) t.limit [] (run t.asks g) (run t.asks g') (rigs_path t rigs seed stream) (rigs_path t rigs seed' stream') (rigs_answered t l rigs o seed stream) (rigs_answered t l rigs o seed' stream'))
    ∙ sym (rigs_judged t rigs seed' stream')

-- ---- causes

fails_or : (code : ℕ) (v : Verdict) → (v ≡ Fail code) ⊎ (v ≡ Fail code → ⊥)
fails_or code Pass = inr (λ e. absurd cc)
fails_or code Unresolved = inr (λ e. absurd cc)
fails_or code (Fail other) = elim (cases_eq other code) [
  | inl same ↦ inl (ap (λ (c : ℕ). Fail c) same)
  | inr differ ↦ inr (λ e. differ (let same : other ≡ code = cc in same))
]

record Caused (t : Subject) (d code : ℕ) (plan : List Rig) : Type 0 where
  cause : List Rig
  in' : Contains (levels t d) cause
  size : ℕ
  grown : IsGrown t size cause
  part : AllByRecursion (Contains plan) cause
  fails : verdict_of_plan t 0 0 cause ≡ Fail code
  least : AllByRecursion (λ rigs. verdict_of_rigs t 0 0 rigs ≡ Fail code → ⊥) (lesser (rigs_of cause))

itself : (t : Subject) (d code n : ℕ) (plan : List Rig) → IsGrown t n plan → Contains (levels t d) plan → verdict_of_plan t 0 0 plan ≡ Fail code
    → AllByRecursion (λ rigs. verdict_of_rigs t 0 0 rigs ≡ Fail code → ⊥) (lesser (rigs_of plan)) → Caused t d code plan
itself t d code n plan g c e least = record { cause = plan; in' = c; size = n; grown = g; part = all_contained plan; fails = e; least = least }

-- the plan of the run of fewer rigged hits
record Lesser (t : Subject) (d code n : ℕ) (plan : List Rig) : Type 0 where
  less : List Rig
  size : ℕ
  small : size < n
  grown : IsGrown t size less
  in' : Contains (levels t d) less
  part : AllByRecursion (Contains plan) less
  fails : verdict_of_plan t 0 0 less ≡ Fail code

less_of : (t : Subject) → IsLawful t → (d code n : ℕ) (plan : List Rig) → n ≤ d → (rigs : List Rig) → IsLess t n plan rigs → verdict_of_rigs t 0 0 rigs ≡ Fail code → Lesser t d code n plan
less_of t l d code n plan small rigs h e =
    let c : FaultCase t = rigs_case t l rigs h.order h.kinds 0 0 in
    let ms : List Met = run_in t c in
    let few : acting ms ≤ length rigs = rigs_few t l rigs h.order h.kinds 0 0 in
    let fewer : suc (length rigs) ≡ n = h.fewer in
    let in' : Contains (level t (acting ms)) (faults [] ms) = case_in_level t l c in
    record {
      less = faults [] ms;
      size = acting ms;
      small = omega (arith, few, fewer);
      grown = all_contains (IsGrown t (acting ms)) (level t (acting ms)) (faults [] ms) (level_grown t l (acting ms)) in';
      in' = level_in_levels t d (acting ms) (faults [] ms) (omega (arith, few, fewer, small)) in';
      part = all_weaker (Contains rigs) (Contains plan) (λ r k. all_contains (Contains plan) rigs r h.part k) (faults [] ms) (rigs_faults t l rigs h.order h.kinds 0 0);
      fails = (case_plan t l c).1 0 0 ∙ e;
    }

further : (t : Subject) (d code n : ℕ) (plan : List Rig) → (h : Lesser t d code n plan) → Caused t d code h.less → Caused t d code plan
further t d code n plan h k =
    record {
      cause = k.cause;
      in' = k.in';
      size = k.size;
      grown = k.grown;
      part = all_weaker (Contains h.less) (Contains plan) (λ r c. all_contains (Contains plan) h.less r h.part c) k.cause k.part;
      fails = k.fails;
      least = k.least;
    }

caused : (t : Subject) → IsLawful t → (d code fuel n : ℕ) (plan : List Rig) → n ≤ fuel → n ≤ d → IsGrown t n plan → Contains (levels t d) plan → verdict_of_plan t 0 0 plan ≡ Fail code → Caused t d code plan
caused t l d code zero n plan f small g c e = elim (all_or (λ rigs. verdict_of_rigs t 0 0 rigs ≡ Fail code) (λ rigs. fails_or code (verdict_of_rigs t 0 0 rigs)) (lesser (rigs_of plan))) [
  | inl least ↦ itself t d code n plan g c e least
  | inr h ↦ absurd (let fewer = (are_less t n plan g h.0 h.1).fewer in omega (arith, fewer, f))
]
caused t l d code (suc fuel) n plan f small g c e = elim (all_or (λ rigs. verdict_of_rigs t 0 0 rigs ≡ Fail code) (λ rigs. fails_or code (verdict_of_rigs t 0 0 rigs)) (lesser (rigs_of plan))) [
  | inl least ↦ itself t d code n plan g c e least
  | inr h ↦
      let s = less_of t l d code n plan small h.0 (are_less t n plan g h.0 h.1) h.2 in
      let less : s.size < n = s.small in
      further t d code n plan s (caused t l d code fuel s.size s.less (omega (arith, less, f)) (omega (arith, less, small)) s.grown s.in' s.fails)
]

is_cause : (t : Subject) → IsLawful t → (d code seed : ℕ) (plan : List Rig) (k : Caused t d code plan) (stream : ℕ) → IsCause t seed stream code k.cause
is_cause t l d code seed plan k stream =
    let whole : List Rig = rigs_of k.cause in
    let o : AreInOrder (sites whole) = rigs_order k.cause k.grown.can in (
      rigs_same t l whole o seed stream 0 0 ∙ k.fails,
      all_weaker (λ rigs. (verdict_of_rigs t 0 0 rigs ≡ Fail code → ⊥) × AreInOrder (sites rigs)) (λ rigs. verdict_of_rigs t seed stream rigs ≡ Fail code → ⊥) (λ rigs h e. h.0 (rigs_same t l rigs h.1 0 0 seed stream ∙ e)) (lesser whole)
          (all_both (λ rigs. verdict_of_rigs t 0 0 rigs ≡ Fail code → ⊥) (λ rigs. AreInOrder (sites rigs)) (lesser whole) k.least (lesser_order whole o)),
    )

pub has_causes : (t : Subject) → IsLawful t → (d : ℕ) → HasCauses t d
has_causes t l d seed number code plan c e =
    let g = all_contains (IsGrownTo t d) (levels t d) plan (levels_grown t l d) c in
    let fails : verdict_of_plan t 0 0 plan ≡ Fail code = rigs_same t l (rigs_of plan) (rigs_order plan g.2.can) 0 0 seed number ∙ e in
    let small : g.0 ≤ d = g.1 in
    let k = caused t l d code d g.0 plan small small g.2 c fails in
    (k.cause, k.in', k.part, is_cause t l d code seed plan k)
