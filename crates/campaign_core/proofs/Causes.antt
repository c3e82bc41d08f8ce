-- Each cause that a report lists is one.
use Rattle.std.proofs.Common.{◌≡◌, ◌≢◌, ℕ, zero, suc, ◌+◌, ◌<◌, ◌≤◌, ◌&&◌, not, Bool, true, false, cond, Option, None, Some, IfSome, All, List, [], ◌∷◌, map, length, get_or, refl, ap, sym, ◌∙◌, subst, arith, eq-eqb}
use Rattle.std.specs.List.{AllByRecursion, list_all}
use Rattle.std.proofs.lemmas.List.{get_or_append_left, get_or-map, length-map, map-append}
use Rattle.std.proofs.lemmas.List.Elements.{All-from_recursion}
use Rattle.scenario_values.specs.Scenario.{Entries}
use Rattle.action_eval.specs.declared.rig.Rig.{Rig}
use Rattle.target_trait.specs.Outcomes.{verdict_with}
use Rattle.target_trait.specs.declared.judgement.Verdict.{Verdict}
use Rattle.target_trait.specs.declared.judgement.Verdict.TheVariants as verdict
use Rattle.plan_gen.specs.PlanList.{further_list}
use Rattle.grown_plans.specs.GrownPlans.{Subject, rigs_of, scenario_of, grown}
use Rattle.grown_plans.specs.Promises.{verdict_of_plan, verdict_of_rigs, lesser}
use Rattle.grown_plans.proofs.Members.{all_append}
use Rattle.grown_runs.specs.GrownRuns.{over, told, told_of_rigs, fails_with, is_least, cause_by, cause_at}
use Rattle.report.specs.Reports.{GrowthFacts}
use Rattle.campaign_core.specs.Findings.{cause_of, growth_of, IsCauseAmong}
use Rattle.campaign_core.specs.Headline.{Campaign, census, grower, plans, plans_to}
use Rattle.campaign_core.proofs.Grown.{list_is}

fails_own : (code : ℕ) (v : Verdict) → v ≡ verdict.Fail code → fails_with code v ≡ true
fails_own code v is = ap (fails_with code) is ∙ eq-eqb code code refl

differ : false ≡ true → ⊥
differ e = cc

not_fail : (code : ℕ) (v : Verdict) → not (fails_with code v) ≡ true → v ≢ verdict.Fail code
not_fail code v is e = differ (ap not (sym (fails_own code v e)) ∙ is)

both_left : (a b : Bool) → (a && b) ≡ true → a ≡ true
both_left true b is = refl
both_left false b is = is

both_right : (a b : Bool) → (a && b) ≡ true → b ≡ true
both_right true b is = is
both_right false b is = absurd (differ is)

none_fails : (t : Subject) (seed stream code : ℕ) (lists : List (List Rig))
    → list_all (λ less. not (fails_with code (told_of_rigs t seed stream less).verdict)) lists ≡ true
    → AllByRecursion (λ rigs. verdict_of_rigs t seed stream rigs ≢ verdict.Fail code) lists
unfolding verdict_with
none_fails t seed stream code [] is = tt
none_fails t seed stream code (less ∷ more) is =
    let test : List Rig → Bool = λ rigs. not (fails_with code (told_of_rigs t seed stream rigs).verdict) in (
      not_fail code (told_of_rigs t seed stream less).verdict (both_left (test less) (list_all test more) is),
      none_fails t seed stream code more (both_right (test less) (list_all test more) is),
    )

-- For one plan.
module _ (t : Subject) (seed : ℕ) (entries : List Entries) (plans : List (List Rig)) (n : ℕ) (lt : n < length plans)
    (named : get_or entries n [] ≡ scenario_of t (get_or plans n [])) where
  if_least : (code : ℕ) (b : Bool) → verdict_of_plan t seed n (get_or plans n []) ≡ verdict.Fail code → is_least t seed n code (rigs_of (get_or plans n [])) ≡ b
      → AllByRecursion (IsCauseAmong t seed plans) (map (cause_of entries) (cond b ((n, code) ∷ []) []))
  if_least code true fails is =
      (record { among = lt; scenario = named; least = (fails, none_fails t seed n code (lesser (rigs_of (get_or plans n []))) is) }, tt)
  if_least code false fails is = tt

  by_verdict : (v : Verdict) → verdict_of_plan t seed n (get_or plans n []) ≡ v
      → AllByRecursion (IsCauseAmong t seed plans) (map (cause_of entries) (cause_by t seed n (rigs_of (get_or plans n [])) v))
  by_verdict verdict.Pass is = tt
  by_verdict (verdict.Fail code) is = if_least code (is_least t seed n code (rigs_of (get_or plans n []))) is refl
  by_verdict verdict.Unresolved is = tt

  own_is : AllByRecursion (IsCauseAmong t seed plans) (map (cause_of entries) (cause_at t seed n (get_or plans n [])))
  unfolding verdict_with
  own_is = by_verdict (told t seed n (get_or plans n [])).verdict refl

-- each cause that is listed for the plans which stand first is one
pub each_is : (t : Subject) (seed : ℕ) (entries : List Entries) (plans : List (List Rig))
    → ((n : ℕ) → n < length plans → get_or entries n [] ≡ scenario_of t (get_or plans n [])) → (first count : ℕ) → first + count ≤ length plans
    → AllByRecursion (IsCauseAmong t seed plans) (map (cause_of entries) (over (cause_at t seed) plans first count))
each_is t seed entries plans named first zero fit = tt
each_is t seed entries plans named first (suc count) fit =
    let mine : List (ℕ × ℕ) = cause_at t seed first (get_or plans first []) in
    let rest : List (ℕ × ℕ) = over (cause_at t seed) plans (first + 1) count in
    let lt : first < length plans = omega (arith, fit) in
    subst (AllByRecursion (IsCauseAmong t seed plans)) (sym (map-append (cause_of entries) mine rest))
    (all_append (IsCauseAmong t seed plans) (map (cause_of entries) mine) (map (cause_of entries) rest)
    (own_is t seed entries plans first lt (named first lt))
    (each_is t seed entries plans named (first + 1) count (omega (arith, fit))))

-- the plans that grew stand first in the list
named_first : (k : Campaign) (d n : ℕ) → n < length (grown (grower k) d)
    → get_or (plans_to k (Some d)) n [] ≡ scenario_of (grower k) (get_or (grown (grower k) d) n [])
named_first k d n lt =
    let t : Subject = grower k in
    let made = length-map (grown t d) (scenario_of t) in
    ap (λ l. get_or l n []) (sym (list_is t d k.given.plans (census k)))
    ∙ get_or_append_left (map (scenario_of t) (grown t d)) (further_list k.points (census k) k.given.plans) [] n (omega (arith, made, lt))
    ∙ get_or-map (scenario_of t) (grown t d) n [] [] lt

pub causes_are_causes : (k : Campaign) (depth : Option ℕ) → depth ≡ k.given.depth
    → IfSome (growth_of (grower k) k.given.plans.seed (plans k) depth) (λ (g : GrowthFacts). All (IsCauseAmong (grower k) k.given.plans.seed (grown (grower k) g.depth)) g.causes)
causes_are_causes k None is = tt
causes_are_causes k (Some d) is =
    let t : Subject = grower k in
    let entries = plans k in
    All-from_recursion (IsCauseAmong t k.given.plans.seed (grown t d)) (map (cause_of entries) (over (cause_at t k.given.plans.seed) (grown t d) 0 (length (grown t d))))
    (each_is t k.given.plans.seed entries (grown t d)
    (λ n lt. ap (λ o. get_or (plans_to k o) n []) (sym is) ∙ named_first k d n lt) 0 (length (grown t d)) (omega arith))
