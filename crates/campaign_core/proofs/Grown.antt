-- What is known of plans that grew: their verdicts, and which are causes.
use Rattle.std.proofs.Common.{◌≡◌, ℕ, zero, suc, ◌+◌, ◌<◌, ◌≤◌, Bool, true, false, cond, Option, None, Some, IfSome, List, [], ◌∷◌, ◌++◌, map, length, get_or, refl, ap, sym, ◌∙◌, arith, append_assoc, length-append, add-zero, subst, All}
use Rattle.std.specs.List.{AllByRecursion}
use Rattle.std.proofs.lemmas.List.{get_or_append_left, get_or-map, length-map, length-append}
use Rattle.std.proofs.lemmas.List.Elements.{All-from_recursion}
use Rattle.std.proofs.lemmas.List.FromFn.{length-map-range_with_len}
use Rattle.scenario_values.specs.Scenario.{Entries}
use Rattle.action_eval.specs.RiggedScenario.{rigged_scenario}
use Rattle.action_eval.specs.declared.rig.Rig.{Rig}
use Rattle.target_trait.specs.Outcomes.{verdict_with}
use Rattle.target_trait.specs.declared.judgement.Verdict.{Verdict}
use Rattle.target_trait.specs.declared.judgement.Verdict.TheVariants as verdict
use Rattle.plan_gen.specs.Census.{sites_of}
use Rattle.plan_gen.specs.PlanList.{Asked, storm_part, further_list}
use Rattle.plan_gen.proofs.Counting.{further_judged}
use Rattle.grown_plans.specs.GrownPlans.{Subject, rigs_of, scenario_of, level, levels, levels_to, onward, grown, grown_list, reached}
use Rattle.grown_plans.proofs.Members.{all_append}
use Rattle.grown_runs.specs.GrownRuns.{over, verdict_at, cause_at, cause_by, is_least}
use Rattle.grown_plans.specs.numbered.GrownScenarios.{grown_scenarios}
use Rattle.grown_runs.specs.declared.levels.Grown.{Grown}
use Rattle.campaign_core.specs.Headline.{Campaign, census, grower, plans, plans_to, say}
use Rattle.report.specs.Reports.{GrowthFacts}
use Rattle.campaign_core.specs.Findings.{growth_of}
use Rattle.campaign_core.specs.Planned.{IsGrownTo, AreKnown}
use Rattle.result_book.specs.Ranges.{AreSaid}

over_length : {A : Type 0} (f : ℕ → List Rig → A) (plans : List (List Rig)) (first count : ℕ) → length (over (λ n p. f n p ∷ []) plans first count) ≡ count
over_length f plans first zero = refl
over_length f plans first (suc count) = ap suc (over_length f plans (first + 1) count)

over_at : {A : Type 0} (f : ℕ → List Rig → A) (plans : List (List Rig)) (first count k : ℕ) (d : A) → k < count
    → get_or (over (λ n p. f n p ∷ []) plans first count) k d ≡ f (first + k) (get_or plans (first + k) [])
over_at f plans first zero k d lt = absurd (omega arith)
over_at f plans first (suc count) zero d lt = ap (λ n. f n (get_or plans n [])) (sym (add-zero first))
over_at f plans first (suc count) (suc k) d lt =
    let at : first + 1 + k ≡ first + suc k = omega arith in
    over_at f plans (first + 1) count k d (omega arith) ∙ ap (λ n. f n (get_or plans n [])) at

-- a list in which these stand first
pub list_is : (t : Subject) (d : ℕ) (asked : Asked) (counts : List ℕ)
    → grown_scenarios t.names (grown t d) ++ further_list t.names counts asked ≡ grown_list t d asked (sites_of counts)
list_is t d asked counts =
    sym (append_assoc (map (scenario_of t) (grown t d)) (storm_part t.names asked.seed asked.rate asked.storms (sites_of counts)) asked.listed)

pub list_length : (t : Subject) (d : ℕ) (asked : Asked) (counts : List ℕ)
    → length (grown_list t d asked (sites_of counts)) ≡ length (grown t d) + length (further_list t.names counts asked)
list_length t d asked counts =
    let e = ap length (list_is t d asked counts) in
    let parts = length-append (grown_scenarios t.names (grown t d)) (further_list t.names counts asked) in
    let made = length-map (grown t d) (scenario_of t) in
    omega (arith, e, parts, made)

-- each verdict is that of its plan
pub verdicts_said : (t : Subject) (seed d : ℕ) (asked : Asked) (counts : List ℕ) (verdicts : List Verdict)
    → verdicts ≡ over (verdict_at t seed) (grown t d) 0 (length (grown t d))
    → AreSaid (verdict_with t.asks t.names seed t.limit) (grown_list t d asked (sites_of counts)) 0 verdicts
unfolding verdict_with
verdicts_said t seed d asked counts verdicts are k v lt =
    let plans = grown t d in
    let said : ℕ → Entries → Verdict = verdict_with t.asks t.names seed t.limit in
    let f : ℕ → List Rig → Verdict = λ n plan. said n (rigged_scenario t.names (rigs_of plan)) in
    let some : k < length plans = (let e = ap length are ∙ over_length f plans 0 (length plans) in omega (arith, e, lt)) in
    let at : 0 + k ≡ k = omega arith in
    let made = length-map plans (scenario_of t) in
    let here : get_or (grown_list t d asked (sites_of counts)) k [] ≡ scenario_of t (get_or plans k []) =
    ap (λ l. get_or l k []) (sym (list_is t d asked counts))
    ∙ get_or_append_left (map (scenario_of t) plans) (further_list t.names counts asked) [] k (omega (arith, made, some))
    ∙ get_or-map (scenario_of t) plans k [] [] some in
    ap (λ vs. get_or vs k v) are ∙ over_at f plans 0 (length plans) k v some
    ∙ ap (λ n. f n (get_or plans n [])) at
    ∙ ap (said k) (sym here)
    ∙ ap (λ n. said n (get_or (grown_list t d asked (sites_of counts)) n [])) (sym at)

pub verdicts_few : (t : Subject) (seed d : ℕ) (verdicts : List Verdict) → verdicts ≡ over (verdict_at t seed) (grown t d) 0 (length (grown t d))
    → length verdicts ≡ length (grown t d)
verdicts_few t seed d verdicts are = ap length are ∙ over_length (λ n plan. one t seed n plan) (grown t d) 0 (length (grown t d))
  where
    one : Subject → ℕ → ℕ → List Rig → Verdict
    one t seed n plan = get_or (verdict_at t seed n plan) 0 verdict.Pass

-- ---- causes

own_number : (t : Subject) (seed n : ℕ) (rigs : List Rig) (v : Verdict) → AllByRecursion (λ c. c.0 ≡ n) (cause_by t seed n rigs v)
own_number t seed n rigs verdict.Pass = tt
own_number t seed n rigs (verdict.Fail code) = own n code (is_least t seed n code rigs)
  where
    own : (n code : ℕ) (b : Bool) → AllByRecursion (λ (c : ℕ × ℕ). c.0 ≡ n) (cond b ((n, code) ∷ []) [])
    own n code true = (refl, tt)
    own n code false = tt
own_number t seed n rigs verdict.Unresolved = tt

below : (n m : ℕ) (cs : List (ℕ × ℕ)) → n < m → AllByRecursion (λ c. c.0 ≡ n) cs → AllByRecursion (λ c. c.0 < m) cs
below n m [] lt own = tt
below n m (c ∷ cs) lt own = ((let e = own.0 in omega (arith, e, lt)), below n m cs lt own.1)

causes_below : (t : Subject) (seed : ℕ) (plans : List (List Rig)) (first count m : ℕ) → first + count ≤ m
    → AllByRecursion (λ c. c.0 < m) (over (cause_at t seed) plans first count)
causes_below t seed plans first zero m fit = tt
causes_below t seed plans first (suc count) m fit =
    all_append (λ (c : ℕ × ℕ). c.0 < m) (cause_at t seed first (get_or plans first [])) (over (cause_at t seed) plans (first + 1) count)
    (below first m (cause_at t seed first (get_or plans first [])) (omega (arith, fit)) (own_number t seed first (rigs_of (get_or plans first [])) _))
    (causes_below t seed plans (first + 1) count m (omega (arith, fit)))

-- each is a plan of the list
pub causes_listed : (t : Subject) (seed d m : ℕ) (causes : List (ℕ × ℕ)) → causes ≡ over (cause_at t seed) (grown t d) 0 (length (grown t d)) → length (grown t d) ≤ m
    → All (λ c. c.0 < m) causes
causes_listed t seed d m causes are few =
    subst (λ (cs : List (ℕ × ℕ)). All (λ c. c.0 < m) cs) (sym are)
    (All-from_recursion (λ (c : ℕ × ℕ). c.0 < m) (over (cause_at t seed) (grown t d) 0 (length (grown t d)))
    (causes_below t seed (grown t d) 0 (length (grown t d)) m (omega (arith, few))))

-- ---- what a campaign's plans are kept in

-- what is known of those that grew
pub plans_known : (k : Campaign) (depth : Option ℕ) (g : Grown) (verdicts : List Verdict) → IsGrownTo k depth (Some g) → verdicts ≡ g.outcomes.verdicts.items
    → AreKnown (say k) (plans_to k depth) verdicts
plans_known k None g verdicts is e = absurd is
plans_known k (Some d) g verdicts is e =
    let t : Subject = grower k in
    let are = e ∙ is.has_grown.verdicts in
    record {
      said = verdicts_said t k.given.plans.seed d k.given.plans (census k) verdicts are;
      few = (let many = verdicts_few t k.given.plans.seed d verdicts are in let all = list_length t d k.given.plans (census k) in omega (arith, many, all));
    }

-- how many plans there are with those behind
pub plans_counted : (k : Campaign) (depth : Option ℕ) (d : ℕ) → depth ≡ Some d
    → length (plans_to k depth) ≡ length (grown (grower k) d) + k.given.plans.storms + length k.given.plans.listed
plans_counted k depth d is =
    let all = ap (λ o. length (plans_to k o)) is in
    let parts = list_length (grower k) d k.given.plans (census k) in
    let further = further_judged k.points (census k) k.given.plans 0 k.given.plans.storms (length k.given.plans.listed) refl refl in
    omega (arith, all, parts, further)

-- there is one plan at least
levels_some : (t : Subject) (d : ℕ) → 0 < length (levels t d)
unfolding levels_to level
levels_some t zero = omega arith
levels_some t (suc d) =
    let rest = levels_some t d in
    let parts = length-append (levels t d) (level t (suc d)) in
    omega (arith, rest, parts)

pub plans_some : (k : Campaign) (depth : Option ℕ) (d : ℕ) → depth ≡ Some d → 0 < length (plans_to k depth)
plans_some k depth d is =
    let counted = plans_counted k depth d is in
    let some = levels_some (grower k) d in
    let parts = length-append (levels (grower k) d) (onward (grower k) d) in
    omega (arith, counted, some, parts)

-- each cause is a plan of the list
pub causes_of_plans : (k : Campaign) (depth : Option ℕ) (g : Grown) (all : List Entries) (causes : List (ℕ × ℕ)) → IsGrownTo k depth (Some g)
    → causes ≡ g.outcomes.causes.items → all ≡ plans_to k depth → All (λ c. c.0 < length all) causes
causes_of_plans k None g all causes is e listed = absurd is
causes_of_plans k (Some d) g all causes is e listed =
    let many = ap length listed in
    let counted = list_length (grower k) d k.given.plans (census k) in
    causes_listed (grower k) k.given.plans.seed d (length all) causes (e ∙ is.has_grown.causes) (omega (arith, many, counted))

-- what is reached has a count for each point
pub reached_counts : (k : Campaign) (depth : Option ℕ) → IfSome (growth_of (grower k) k.given.plans.seed (plans k) depth) (λ (r : GrowthFacts). length r.reached ≡ length k.points)
reached_counts k None = tt
reached_counts k (Some d) = length-map-range_with_len (reached (grower k) d) 0 (length k.points)
