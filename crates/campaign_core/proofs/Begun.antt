-- The plans with which a list begins, and those behind them.
use Rattle.std.proofs.Common.{◌≡◌, ℕ, zero, suc, ◌+◌, ◌<◌, ◌≤◌, Option, None, Some, List, [], ◌∷◌, ◌++◌, map, length, refl, ap, sym, ◌∙◌, arith, append_assoc, subst}
use Rattle.std.specs.Prelude.{slice_get, Result, Ok, Err, IfOk, OnOk}
use Rattle.std.specs.List.{AllByRecursion}
use Rattle.std.proofs.lemmas.List.{length-map, map-append}
use Rattle.scenario_values.specs.Scenario.{Entries}
use Rattle.action_eval.specs.declared.rig.Rig.{Rig}
use Rattle.action_eval.specs.RiggedScenario.{CanBeRigged}
use Rattle.plan_gen.specs.PlanList.{further_list}
use Rattle.grown_plans.specs.GrownPlans.{usual_kinds, Subject, rigs_of, grown}
use Rattle.grown_plans.proofs.Members.{all_left}
use Rattle.grown_plans.specs.numbered.GrownScenarios.{grown_among, grown_scenario, grown_scenarios}
use Rattle.grown_runs.specs.Grown.{begun}
use Rattle.grown_runs.proofs.Begun.{begun_front, begun_most, begun_all}
use Rattle.campaign_core.specs.CommandTexts.{counted_to}
use Rattle.campaign_core.specs.Headline.{Campaign, census, grower, plans_to}
use Rattle.campaign_core.specs.Planned.{AreBegun, AreGrown}
use Rattle.plan_gen.specs.Census.{sites_of}
use Rattle.grown_plans.specs.Promises.{IsLawful}
use Rattle.campaign_core.proofs.FirstLevel.{few_sites_of}
use Rattle.campaign_core.proofs.Grown.{list_is, plans_counted, plans_some}

-- ---- a result, and what holds if there is one

pub if_ok_both : {A E : Type 0} (r : Result A E) (P : A → Type 0) (Q : Type 0) → IfOk r P → OnOk r Q → IfOk r (λ x. P x × Q)
if_ok_both (Ok x) P Q p q = (p, q)
if_ok_both (Err e) P Q p q = tt

-- ---- all plans that grew

-- ---- those with which a list begins

pub begun_rigged : (k : Campaign) (depth : Option ℕ) (count : ℕ) (g : Option (List (List Rig))) → AreBegun k depth count g
    → AllByRecursion (λ plan. CanBeRigged (rigs_of plan)) (grown_among g)
begun_rigged k None count None are = tt
begun_rigged k None count (Some g) are = absurd are
begun_rigged k (Some d) count None are = absurd are
begun_rigged k (Some d) count (Some g) are = are.rigs

front_rigged : (xs front rest : List (List Rig)) → xs ≡ front ++ rest → AllByRecursion (λ plan. CanBeRigged (rigs_of plan)) xs
    → AllByRecursion (λ plan. CanBeRigged (rigs_of plan)) front
front_rigged xs front rest is all =
    all_left (λ (plan : List Rig). CanBeRigged (rigs_of plan)) front rest (subst (AllByRecursion (λ (plan : List Rig). CanBeRigged (rigs_of plan))) is all)

pub begun_can : (t : Subject) (d count : ℕ) (g : List (List Rig)) → g ≡ begun t d count → AllByRecursion (λ plan. CanBeRigged (rigs_of plan)) (grown t d)
    → AllByRecursion (λ plan. CanBeRigged (rigs_of plan)) g
begun_can t d count g is all =
    let front = begun_front t d count in
    subst (AllByRecursion (λ (plan : List Rig). CanBeRigged (rigs_of plan))) (sym is) (front_rigged (grown t d) (begun t d count) front.0 front.1 all)

get_left : {A : Type 0} (xs ys : List A) (n : ℕ) → n < length xs → slice_get (xs ++ ys) n ≡ slice_get xs n
get_left [] ys n lt = absurd (omega (arith, lt))
get_left (x ∷ xs) ys zero lt = refl
get_left (x ∷ xs) ys (suc n) lt = get_left xs ys n (omega (arith, lt))

found_at : (k : Campaign) (d count n : ℕ) (g : List (List Rig)) → g ≡ begun (grower k) d count → n < length g
    → slice_get (grown_scenarios k.points g) n ≡ slice_get (plans_to k (Some d)) n
found_at k d count n g is lt =
    let t : Subject = grower k in
    let front = begun_front t d count in
    let all : grown t d ≡ g ++ front.0 = front.1 ∙ ap (λ ps. ps ++ front.0) (sym is) in
    let made = length-map g (grown_scenario k.points) in
    sym
    (ap (λ l. slice_get l n)
    (sym (list_is t d k.given.plans (census k))
    ∙ ap (λ ps. map (grown_scenario k.points) ps ++ further_list k.points (census k) k.given.plans) all
    ∙ ap (λ l. l ++ further_list k.points (census k) k.given.plans) (map-append (grown_scenario k.points) g front.0)
    ∙ append_assoc (map (grown_scenario k.points) g) (map (grown_scenario k.points) front.0) (further_list k.points (census k) k.given.plans))
    ∙ get_left (map (grown_scenario k.points) g) (map (grown_scenario k.points) front.0 ++ further_list k.points (census k) k.given.plans) n (omega (arith, made, lt)))

-- a plan that is among them is that of the list
pub begun_found : (k : Campaign) (depth : Option ℕ) (count n : ℕ) (g : Option (List (List Rig))) (s : Entries) → AreBegun k depth count g
    → slice_get (grown_scenarios k.points (grown_among g)) n ≡ Some s → slice_get (plans_to k depth) n ≡ Some s
begun_found k None count n None s are found = absurd (let f : None ≡ Some s = found in cc)
begun_found k None count n (Some g) s are found = absurd are
begun_found k (Some d) count n None s are found = absurd are
begun_found k (Some d) count n (Some g) s are found =
    let made = length-map g (grown_scenario k.points) in
    let lt = within (grown_scenarios k.points g) n s found in
    sym (found_at k d count n g are.same (omega (arith, made, lt))) ∙ found
  where
    within : {A : Type 0} (xs : List A) (n : ℕ) (x : A) → slice_get xs n ≡ Some x → n < length xs
    within [] n x e = absurd (let f : None ≡ Some x = e in cc)
    within (y ∷ ys) zero x e = omega arith
    within (y ∷ ys) (suc n) x e = let rest = within ys n x e in omega (arith, rest)

-- If there is no plan of that number, these are all.
pub begun_whole : (k : Campaign) (depth : Option ℕ) (n : ℕ) (g : Option (List (List Rig))) → AreBegun k depth (n + 1) g
    → slice_get (grown_scenarios k.points (grown_among g)) n ≡ None → AreGrown k depth g
begun_whole k None n None are none = tt
begun_whole k None n (Some g) are none = absurd are
begun_whole k (Some d) n None are none = absurd are
begun_whole k (Some d) n (Some g) are none =
    let made = length-map g (grown_scenario k.points) in
    let past = beyond (grown_scenarios k.points g) n none in
    let many = ap length are.same in
    record { same = are.same ∙ begun_all (grower k) d (n + 1) (omega (arith, made, past, many)); rigs = are.rigs; few = are.few; deep = are.deep }
  where
    beyond : {A : Type 0} (xs : List A) (n : ℕ) → slice_get xs n ≡ None → length xs ≤ n
    beyond [] n e = omega arith
    beyond (y ∷ ys) zero e = absurd (let f : Some y ≡ None = e in cc)
    beyond (y ∷ ys) (suc n) e = let rest = beyond ys n e in omega (arith, rest)

-- The same if more were asked for than a list may have.
pub begun_full : (k : Campaign) (depth : Option ℕ) (count : ℕ) (g : Option (List (List Rig))) → AreBegun k depth count g → 65536 < count → AreGrown k depth g
begun_full k None count None are lt = tt
begun_full k None count (Some g) are lt = absurd are
begun_full k (Some d) count None are lt = absurd are
begun_full k (Some d) count (Some g) are lt =
    let many = ap length are.same in
    let few = are.few in
    record { same = are.same ∙ begun_all (grower k) d count (omega (arith, lt, many, few)); rigs = are.rigs; few = are.few; deep = are.deep }

-- ---- how many are counted

-- at most as many as the list has
pub counted_least : (k : Campaign) (count : ℕ) (depth : Option ℕ) → depth ≡ k.given.depth → counted_to k count depth ≤ length (plans_to k k.given.depth)
counted_least k count None is = let same = ap (λ o. length (plans_to k o)) is in omega arith
counted_least k count (Some d) is =
    let most = begun_most (grower k) d count in
    let all = plans_counted k k.given.depth d (sym is) in
    omega (arith, most, all)

-- ---- what stands behind

-- the sites of the census are few
pub sites_few : (k : Campaign) (depth : Option ℕ) (g : List (List Rig)) → AreGrown k depth (Some g) → k.kinds ≡ usual_kinds k.points → IsLawful (grower k)
    → (counts : List ℕ) → counts ≡ census k → length (sites_of counts) < 65536
sites_few k None g are usual lawful counts is = absurd are
sites_few k (Some d) g are usual lawful counts is =
    let few = are.few in
    let many = ap length are.same in
    subst (λ (cs : List ℕ). length (sites_of cs) < 65536) (sym is)
    (few_sites_of (grower k) k.given.plans.seed d usual lawful are.deep (omega (arith, few, many)))

pub behind_some : (k : Campaign) (depth : Option ℕ) (g : List (List Rig)) → AreGrown k depth (Some g) → 0 < length (plans_to k depth)
behind_some k None g are = absurd are
behind_some k (Some d) g are = plans_some k (Some d) d refl

-- ---- a plan that is looked up

-- If the plan is among those with which the list begins, they are few.
pub begun_counted : (k : Campaign) (depth : Option ℕ) (count n : ℕ) (g : Option (List (List Rig))) (s : Entries) → AreBegun k depth count g
    → slice_get (grown_scenarios k.points (grown_among g)) n ≡ Some s → counted_to k count depth ≤ 65536
begun_counted k None count n None s are found = absurd (let f : None ≡ Some s = found in cc)
begun_counted k None count n (Some g) s are found = absurd are
begun_counted k (Some d) count n None s are found = absurd are
begun_counted k (Some d) count n (Some g) s are found = let many = ap length are.same in let few = are.few in omega (arith, many, few)

-- If all grew, all are counted.
pub counted_all : (k : Campaign) (count : ℕ) (depth : Option ℕ) (g : Option (List (List Rig))) → depth ≡ k.given.depth → AreBegun k depth count g → AreGrown k depth g
    → counted_to k count depth ≡ length (plans_to k k.given.depth)
counted_all k count None g is are all = refl
counted_all k count (Some d) None is are all = absurd are
counted_all k count (Some d) (Some g) is are all =
    let begins = ap length are.same in
    let whole = ap length all.same in
    let counted = plans_counted k k.given.depth d (sym is) in
    omega (arith, begins, whole, counted)
