-- What answers say of scenarios that they don't name, for each component that agrees with them.
use Rattle.std.proofs.Common.{◌≡◌, ℕ, ◌≤◌, ◌<◌, ◌^◌, Bool, true, false, cond, List, [], ◌∷◌, length, map, refl, ap, sym, ◌∙◌, subst, arith, inl, inr}
use Rattle.std.specs.Prelude.{Option, Some, None, IfSome, option_and_then, option_map, nat_le, nat_lt, ◌&&◌, ◌||◌, ◌==◌}
use Rattle.std.specs.List.{AllByRecursion, list_all}
use Rattle.std.specs.Str.{bytes_eq}
use Rattle.std.proofs.lemmas.Bool.{eqb-true, leb-true, ltb-true}
use Rattle.std.proofs.lemmas.Slice.Eq.{bytes_eq-Decides}
use Rattle.scenario_values.specs.Scenario.{Entries, IsScenario, is_argument}
use Rattle.scenario_values.specs.Printed.{printed}
use Rattle.scenario_values.specs.Tidied.{tidied}
use Rattle.action_eval.specs.Answers.{given_of}
use Rattle.action_eval.specs.Catalogue.{IsCatalogue}
use Rattle.action_eval.specs.declared.rig.Kind.{Kind}
use Rattle.action_eval.specs.declared.rig.Rig.{Rig}
use Rattle.action_eval.specs.declared.rig.Site.{Site}
use Rattle.action_eval.specs.RiggedScenario.{rigged_scenario, most_text, text_of, HasLawfulText, HaveLawfulTexts}
use Rattle.action_eval.proofs.Rigged.{rigged_scenario_keeps}
use Rattle.target_trait.specs.Outcomes.{outcome, verdict_with}
use Rattle.target_trait.specs.declared.judgement.Verdict.{Verdict}
use Rattle.target_trait.proofs.Verdicts.{verdict_is}
use Rattle.plan_gen.specs.RiggedAnswers.{AreInOrder, IsBefore}
use Rattle.answer_text.specs.Runs.{KnownRuns, told_in}
use Rattle.answer_text.specs.declared.runs.ToldRun.{ToldRun}
use Rattle.answer_text.proofs.Members.{same_printed}
use Rattle.grown_plans.specs.numbered.GrownScenarios.{grown_scenario}
use Rattle.grown_plans.specs.GrownPlans.{Subject, is_before, rigs_of}
use Rattle.grown_plans.specs.Promises.{IsLawful, verdict_of_rigs}
use Rattle.grown_plans.proofs.Members.{all_map, all_weaker}
use Rattle.grown_runs.specs.known.Known.{Told}
use Rattle.grown_runs.specs.known.Walks.{once}
use Rattle.grown_runs.proofs.KnownLemmas.Steps.{same_verdict}
use Rattle.answered_runs.specs.Agreement.{is_certain}
use Rattle.answered_runs.specs.Answered.{Answered, plan_runs, runs_in, told_of}
use Rattle.answered_runs.specs.Components.{AgreesWithRuns, IsComponent, IsTrueRun}
use Rattle.answered_runs.specs.KnownLists.{verdict_told}
use Rattle.answered_runs.specs.Rigged.{are_in_order, are_lawful, are_short, are_small, is_short, if_made, make, most_hit, points_into, rigs_of_scenario}
use Rattle.answered_runs.specs.Verdicts.{AreVerdictsOf, told_or, verdict_by, walked_by}
use Rattle.answered_runs.proofs.AnyKinds.{any_kinds, any_in, any_once, any_texts, distinct_apart}
use Rattle.answered_runs.proofs.CertainAnswers.{rigs_certain}
use Rattle.answered_runs.proofs.Runs.{agree_lawful}
use Rattle.answered_runs.proofs.Tests.{certain_scenario, scenario_certain}

-- ---- tests that hold

left : (a b : Bool) → (a && b) ≡ true → a ≡ true
left true b e = refl
left false b e = absurd cc

right : (a b : Bool) → (a && b) ≡ true → b ≡ true
right true b e = e
right false b e = absurd cc

passes : {A : Type 0} (p : A → Bool) (xs : List A) → list_all p xs ≡ true → AllByRecursion (λ x. p x ≡ true) xs
passes p [] e = tt
passes p (x ∷ xs) e = (left (p x) (list_all p xs) e, passes p xs (right (p x) (list_all p xs) e))

before : (a b : Site) → is_before a b ≡ true → IsBefore a b
before a b e = at (nat_lt a.point b.point) refl e
  where
    at : (c : Bool) → nat_lt a.point b.point ≡ c → (c || ((a.point == b.point) && nat_lt a.hit b.hit)) ≡ true → IsBefore a b
    at true f g = inl (ltb-true a.point b.point f)
    at false f g =
        let same = left (a.point == b.point) (nat_lt a.hit b.hit) g in
        let less = right (a.point == b.point) (nat_lt a.hit b.hit) g in
        inr (eqb-true a.point b.point same, ltb-true a.hit b.hit less)

in_order : (rigs : List Rig) → are_in_order rigs ≡ true → AreInOrder (map (λ (r : Rig). r.site) rigs)
in_order [] e = tt
in_order (r ∷ rs) e =
    let front = left (nat_lt 0 r.site.hit && list_all (λ (s : Rig). is_before r.site s.site) rs) (are_in_order rs) e in
    let more = right (nat_lt 0 r.site.hit && list_all (λ (s : Rig). is_before r.site s.site) rs) (are_in_order rs) e in
    let first = left (nat_lt 0 r.site.hit) (list_all (λ (s : Rig). is_before r.site s.site) rs) front in
    let all = passes (λ (s : Rig). is_before r.site s.site) rs (right (nat_lt 0 r.site.hit) (list_all (λ (s : Rig). is_before r.site s.site) rs) front) in (
      ltb-true 0 r.site.hit first,
      all_map (λ (t : Site). IsBefore r.site t) (λ (s : Rig). s.site) rs
          (all_weaker (λ (s : Rig). is_before r.site s.site ≡ true) (λ (s : Rig). IsBefore r.site s.site) (λ s f. before r.site s.site f) rs all),
      in_order rs more,
    )

-- ---- a component that tries the faults of rigged hits at each point, with the same runs

abbrev pub with_any : Subject → List Rig → Subject
with_any t rigs = record { asks = t.asks; names = t.names; limit = t.limit; kinds = any_kinds rigs }

pub lawful_any : (t : Subject) (rigs : List Rig) → IsLawful t → HaveLawfulTexts rigs → IsLawful (with_any t rigs)
lawful_any t rigs l texts = record {
  catalogue = l.catalogue;
  within = l.within;
  once = any_once rigs;
  apart = λ point. distinct_apart (map (λ (r : Rig). once r.kind) rigs);
  texts = any_texts rigs texts;
}

true_any : (t : Subject) (rigs : List Rig) (s : Entries) (o : Option ToldRun) → IfSome o (IsTrueRun t s) → IfSome o (IsTrueRun (with_any t rigs) s)
true_any t rigs s None h = tt
true_any t rigs s (Some r) h = record { verdict = h.verdict; hits = h.hits }

pub agrees_any : (t : Subject) (rigs : List Rig) (told : KnownRuns) → AgreesWithRuns t told → AgreesWithRuns (with_any t rigs) told
agrees_any t rigs told agrees = λ s lawful certain. true_any t rigs s (told s) (agrees s lawful certain)

-- ---- the rigged hits of a scenario

rigs_is : (rigs rs : List Rig) → Some rigs ≡ Some rs → rigs ≡ rs
rigs_is rigs rs e = cc

made : (points : List (List ℕ)) (s : Entries) (rigs : List Rig) → rigs_of_scenario points s ≡ Some rigs → make points rigs s ≡ true
made points s rigs e = by_found (points_into s 0 points []) e
  where
    by_test : (rs : List Rig) (b : Bool) → make points rs s ≡ b → cond b (Some rs) None ≡ Some rigs → make points rigs s ≡ true
    by_test rs true f g = ap (λ (x : List Rig). make points x s) (sym (rigs_is rs rigs g)) ∙ f
    by_test rs false f g = absurd cc

    by_found : (o : Option (List Rig)) → option_and_then (if_made points s) o ≡ Some rigs → make points rigs s ≡ true
    by_found None f = absurd cc
    by_found (Some rs) f = by_test rs (make points rs s) refl f

pub record Lawful (rigs : List Rig) : Type 0 where
  pub few : length rigs ≤ 64
  pub small : AllByRecursion (λ r. r.site.hit < 2 ^ 32) rigs
  pub texts : HaveLawfulTexts rigs
  pub ordered : AreInOrder (map (λ (r : Rig). r.site) rigs)

short_text : (kind : Kind) → is_short (text_of kind) ≡ true → HasLawfulText kind
short_text kind e = at (text_of kind) e
  where
    at : (o : Option (List ℕ)) → is_short o ≡ true → IfSome o (λ text. (is_argument text ≡ true) × (length text ≤ most_text))
    at None f = tt
    at (Some text) f = (left (is_argument text) (nat_le (length text) most_text) f, leb-true (length text) most_text (right (is_argument text) (nat_le (length text) most_text) f))

lawful : (rigs : List Rig) → are_lawful rigs ≡ true → Lawful rigs
lawful rigs e =
    let g = left (nat_le (length rigs) 64 && are_small rigs && are_short rigs) (are_in_order rigs) e in
    let f = left (nat_le (length rigs) 64 && are_small rigs) (are_short rigs) g in
    let a = left (nat_le (length rigs) 64) (are_small rigs) f in
    let b = right (nat_le (length rigs) 64) (are_small rigs) f in
    let d = right (nat_le (length rigs) 64 && are_small rigs) (are_short rigs) g in
    record {
      few = leb-true (length rigs) 64 a;
      small = all_weaker (λ (r : Rig). nat_le r.site.hit most_hit ≡ true) (λ (r : Rig). r.site.hit < 2 ^ 32) (λ r h. let le = leb-true r.site.hit most_hit h in omega (arith, le)) rigs (passes (λ (r : Rig). nat_le r.site.hit most_hit) rigs b);
      texts = all_weaker (λ (r : Rig). is_short (text_of r.kind) ≡ true) (λ (r : Rig). HasLawfulText r.kind) (λ r h. short_text r.kind h) rigs (passes (λ (r : Rig). is_short (text_of r.kind)) rigs d);
      ordered = in_order rigs (right (nat_le (length rigs) 64 && are_small rigs && are_short rigs) (are_in_order rigs) e);
    }

-- a scenario that is made of rigged hits is just that of these
pub record AreRigsOf (points : List (List ℕ)) (s : Entries) (rigs : List Rig) : Type 0 where
  pub lawful : Lawful rigs
  pub same : rigged_scenario points rigs ≡ s

pub rigs_give : (points : List (List ℕ)) (s : Entries) (rigs : List Rig) → IsCatalogue points → IsScenario s → rigs_of_scenario points s ≡ Some rigs → AreRigsOf points s rigs
rigs_give points s rigs catalogue ok e =
    let m = made points s rigs e in
    let l = lawful rigs (left (are_lawful rigs) (bytes_eq (printed (rigged_scenario points rigs)) (printed s)) m) in
    let prints : printed (rigged_scenario points rigs) ≡ printed s = (bytes_eq-Decides (printed (rigged_scenario points rigs)) (printed s)).0 (right (are_lawful rigs) (bytes_eq (printed (rigged_scenario points rigs)) (printed s)) m) in
    record { lawful = l; same = same_printed (rigged_scenario points rigs) s (rigged_scenario_keeps points rigs catalogue l.few l.small l.texts) ok prints }

verdict_some : (v w : Verdict) → Some v ≡ Some w → v ≡ w
verdict_some v w e = cc

-- ---- the verdicts

pub true_of : (t : Subject) (points : List (List ℕ)) (listed : List (List Kind)) (told : KnownRuns) (depth : ℕ) → IsComponent points listed t → depth ≤ 64 → AgreesWithRuns t told → AreVerdictsOf t (verdict_by points told depth)
true_of t points listed told depth is low agrees s v ok known seed stream = by_test (is_certain s) refl known
  where
    catalogue : IsCatalogue points
    catalogue = subst IsCatalogue is.names is.lawful.catalogue

    by_rigs : (o : Option (List Rig)) → rigs_of_scenario points s ≡ o → walked_by (plan_runs points told) depth o ≡ Some v → (outcome t.asks (given_of s t.names seed stream t.limit)).verdict ≡ v
    by_rigs None e k = absurd cc
    by_rigs (Some rigs) e k =
        let of = rigs_give points s rigs catalogue ok e in
        let l = of.lawful in
        let any = lawful_any t rigs is.lawful l.texts in
        let known = agree_lawful (with_any t rigs) points told depth any is.names is.few low (agrees_any t rigs told agrees) in
        let w : (seed stream : ℕ) → verdict_of_rigs t seed stream rigs ≡ v = same_verdict (plan_runs points told) rigs depth (Some v) (sym k) (with_any t rigs) any known l.ordered (any_in rigs) in
        sym (verdict_is t.asks t.names seed t.limit stream s) ∙ ap (verdict_with t.asks t.names seed t.limit stream) (sym of.same ∙ ap (λ (names : List (List ℕ)). rigged_scenario names rigs) (sym is.names)) ∙ w seed stream

    by_told : (o : Option ToldRun) → IfSome o (IsTrueRun t s) → told_or (walked_by (plan_runs points told) depth (rigs_of_scenario points s)) o ≡ Some v → (outcome t.asks (given_of s t.names seed stream t.limit)).verdict ≡ v
    by_told (Some r) h k = h.verdict seed stream ∙ verdict_some r.verdict v k
    by_told None h k = by_rigs (rigs_of_scenario points s) refl k

    by_test : (b : Bool) → is_certain s ≡ b → told_or (walked_by (plan_runs points told) depth (rigs_of_scenario points s)) (cond b (told s) None) ≡ Some v
        → (outcome t.asks (given_of s t.names seed stream t.limit)).verdict ≡ v
    by_test true e k = by_told (told s) (agrees s ok (scenario_certain s e)) k
    by_test false e k = by_rigs (rigs_of_scenario points s) refl k

-- ---- the scenarios of plans

-- nothing is drawn in them, so what is recorded of them counts
pub plan_certain : (points : List (List ℕ)) (plan : List Rig) → is_certain (tidied (grown_scenario points plan)) ≡ true
plan_certain points plan = certain_scenario (tidied (grown_scenario points plan)) (rigs_certain points (rigs_of plan))

pub told_known : (a : Answered) (depth : ℕ) (plan : List Rig) (v : Verdict) → verdict_told (runs_in a) plan ≡ Some v
    → verdict_by a.points (told_in a.book) depth (tidied (grown_scenario a.points plan)) ≡ Some v
told_known a depth plan v e =
    subst (λ (b : Bool). told_or walked (cond b (told_in a.book s) None) ≡ Some v) (sym (plan_certain a.points plan)) (by_few (nat_le (length plan) 64) (told_in a.book s) e)
  where
    s : Entries
    s = tidied (grown_scenario a.points plan)

    walked : Option Verdict
    walked = walked_by (plan_runs a.points (told_in a.book)) depth (rigs_of_scenario a.points s)

    by_few : (few : Bool) (o : Option ToldRun) → option_map (λ (t : Told). t.verdict) (cond few (option_map told_of o) None) ≡ Some v → told_or walked o ≡ Some v
    by_few true (Some r) h = h
    by_few true None h = absurd cc
    by_few false o h = absurd cc
