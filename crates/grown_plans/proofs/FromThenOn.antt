-- Each case in which fewer than d faults act and then a sticky return does has the run of one grown plan.
use Rattle.std.proofs.Common.{◌≡◌, ℕ, suc, ◌+◌, ◌<◌, ◌≤◌, ◌==◌, ◌||◌, ◌⊎◌, inl, inr, Bool, true, false, cond, Option, List, [], ◌∷◌, ◌++◌, length, refl, ap, sym, ◌∙◌, subst, arith, append_assoc}
use Rattle.std.specs.Prelude.{Contains}
use Rattle.std.specs.List.{AllByRecursion, list_any}
use Rattle.std.proofs.lemmas.Bool.{cases_lt}
use Rattle.std.proofs.lemmas.Bool.Decides.{nat_tests}
use Rattle.std.proofs.lemmas.List.Elements.{Contains-append_left, Contains-append_right}
use Rattle.action_eval.specs.declared.rig.Site.{Site}
use Rattle.action_eval.specs.declared.rig.Rig.{Rig}
use Rattle.action_eval.specs.declared.rig.Kind.TheVariants.{OnceReturn}
use Rattle.action_eval.specs.Answers.{Reply, Go, Return}
use Rattle.action_eval.specs.RiggedScenario.{rig}
use Rattle.grown_plans.specs.Runs.{Met, met, is_fault, acting}
use Rattle.grown_plans.specs.GrownPlans.{Subject, run_of_plan, hits_after, is_hit_again, onward_of, level, levels, onward, grown}
use Rattle.grown_plans.specs.Promises.{IsLawful, IsOfKinds, run_in, IsTried, ReturnsOnward, TriesOnward}
use Rattle.grown_plans.proofs.Members.{all_weaker, all_append, all_left, all_right, contains_head, contains_flat, one_of}
use Rattle.grown_plans.proofs.Paths.{IsPath, Numbered, Fresh, AnsweredBy, times_met, same_path, path_numbered, hit_fresh, rest_fresh, rest_later, hit_is}
use Rattle.grown_plans.proofs.RiggedScenarios.{CanAct, reply_here, reply_there}
use Rattle.grown_plans.proofs.PlanRuns.{answers_of, plan_path, plan_answered}
use Rattle.grown_plans.proofs.Faults.{noted, noted_length, faults, faults_both, faults_none, faults_length, AllGo, faults_answer, AreAmong, faults_among, among_quiet}
use Rattle.grown_plans.proofs.Levels.{hits_after_split, begins, in_level}
use Rattle.grown_plans.proofs.Apart.{level_in_levels}
use Rattle.grown_plans.proofs.Cases.{case_path, case_plan, case_in_level, is_tried, no_two_tried}
use Rattle.grown_plans.proofs.Onward.{from_then, acts_from, acts_not_yet, are_earlier, onward_can, before_onward, First, first_of_any, runs_nothing_twice}

-- ---- where fault d acts

record Cut (d : ℕ) (rigs : List Rig) (ms : List Met) : Type 0 where
  b : List Met
  m : Met
  a : List Met
  split : ms ≡ b ++ m ∷ a
  count : length (faults rigs b) + 1 ≡ d
  acts : is_fault m.reply ≡ true

cut_here : (d : ℕ) (rigs : List Rig) (m : Met) (ms : List Met) (x : Bool) → is_fault m.reply ≡ x → length rigs < d → d ≤ length rigs + cond x 1 0 → Cut d rigs (m ∷ ms)
cut_here d rigs m ms true e h k = record { b = []; m = m; a = ms; split = refl; count = omega (arith, h, k); acts = e }
cut_here d rigs m ms false e h k = absurd (omega (arith, h, k))

cut_at : (d : ℕ) (rigs : List Rig) (ms : List Met) → length rigs < d → d < length (faults rigs ms) → Cut d rigs ms
cut_at d rigs [] h k = absurd (omega (arith, h, k))
cut_at d rigs (m ∷ ms) h k = elim (cases_lt (length (noted m.site m.reply rigs)) d) [
  | inl less ↦
      let r = cut_at d (noted m.site m.reply rigs) ms less k in
      record { b = m ∷ r.b; m = r.m; a = r.a; split = ap (λ (l : List Met). m ∷ l) r.split; count = r.count; acts = r.acts }
  | inr more ↦ let one = noted_length m.site m.reply rigs in cut_here d rigs m ms (is_fault m.reply) refl h (omega (arith, more, one))
]

none_case : {A : Type 0} (test : A → Bool) (x : A) (xs : List A) (b : Bool) → test x ≡ b → (b || list_any test xs) ≡ false → (list_any test xs ≡ false → AllByRecursion (λ y. test y ≡ false) xs)
    → AllByRecursion (λ y. test y ≡ false) (x ∷ xs)
none_case test x xs true e h f = absurd cc
none_case test x xs false e h f = (e, f h)

none_of : {A : Type 0} (test : A → Bool) (xs : List A) → list_any test xs ≡ false → AllByRecursion (λ y. test y ≡ false) xs
none_of test [] e = tt
none_of test (x ∷ xs) e = none_case test x xs (test x) refl e (none_of test xs)

first_or_none : {A : Type 0} (test : A → Bool) (xs : List A) (b : Bool) → list_any test xs ≡ b → First test xs ⊎ AllByRecursion (λ y. test y ≡ false) xs
first_or_none test xs true e = inl (first_of_any test xs e)
first_or_none test xs false e = inr (none_of test xs e)

or_true : (b : Bool) → (b || true) ≡ true
or_true true = refl
or_true false = refl

any_in : {A : Type 0} (test : A → Bool) (xs : List A) (y : A) (ys : List A) → test y ≡ true → list_any test (xs ++ y ∷ ys) ≡ true
any_in test [] y ys e = ap (λ b. b || list_any test ys) e
any_in test (x ∷ xs) y ys e = ap (λ b. test x || b) (any_in test xs y ys e) ∙ or_true (test x)

returns_here : (text : Option (List ℕ)) (b : Bool) (r : Reply) → r ≡ cond b (Return text) Go → is_fault r ≡ true → b ≡ true
returns_here text true r e h = refl
returns_here text false r e h = sym (ap is_fault e) ∙ h

as_case : (text : Option (List ℕ)) (b c : Bool) (r : Reply) → b ≡ c → r ≡ cond b (Return text) Go → r ≡ cond c (Return text) Go
as_case text b c r e h = h ∙ ap (λ x. cond x (Return text) Go) e

same_point : (p q : ℕ) → (p == q) ≡ true → p ≡ q
same_point p q e = grind (arith, nat_tests, e)

is_point : (p q : ℕ) → p ≡ q → (p == q) ≡ true
is_point p q e = grind (arith, nat_tests, e)

-- a hit after the fault's
after_case : (text : Option (List ℕ)) (rs : List Rig) (b : List Met) (s : Site) (z : Met) (x : Bool) → (z.site.point == s.point) ≡ x → s.hit ≡ times_met s.point b + 1 → AreAmong rs b
    → z.reply ≡ cond (z.site.point == s.point) (Return text) Go → Fresh z.site b → times_met z.site.point b < z.site.hit → z.reply ≡ answers_of (from_then text s ∷ rs) z.site
after_case text rs b s z true e hit a r fresh later =
    let same : s.point ≡ z.site.point = sym (same_point z.site.point s.point e) in
    let times : times_met s.point b ≡ times_met z.site.point b = ap (λ p. times_met p b) same in
    as_case text (z.site.point == s.point) true z.reply e r ∙ sym (reply_here z.site.point z.site.hit (from_then text s) rs (acts_from text s z.site.point z.site.hit same (omega (arith, later, hit, times))))
after_case text rs b s z false e hit a r fresh later =
    as_case text (z.site.point == s.point) false z.reply e r
    ∙ sym (reply_there z.site.point z.site.hit (from_then text s) rs (acts_not_yet text s z.site.point z.site.hit (λ same. absurd (let yes : (z.site.point == s.point) ≡ true = is_point z.site.point s.point (sym same) in let no : true ≡ false = sym yes ∙ e in cc)))
    ∙ among_quiet rs b z.site a fresh)

all_after : (text : Option (List ℕ)) (rs : List Rig) (b : List Met) (s : Site) (ms : List Met) → s.hit ≡ times_met s.point b + 1 → AreAmong rs b → ReturnsOnward text s.point ms → AllByRecursion (λ (z : Met). Fresh z.site b) ms
    → AllByRecursion (λ (z : Met). times_met z.site.point b < z.site.hit) ms → AnsweredBy (answers_of (from_then text s ∷ rs)) ms
all_after text rs b s [] hit a r f h = tt
all_after text rs b s (z ∷ ms) hit a r f h = (after_case text rs b s z (z.site.point == s.point) refl hit a r.0 f.0 h.0, all_after text rs b s ms hit a r.1 f.1 h.1)

go_where_none : (text : Option (List ℕ)) (p : ℕ) (ms : List Met) → ReturnsOnward text p ms → AllByRecursion (λ (m : Met). (m.site.point == p) ≡ false) ms → AllGo ms
go_where_none text p [] r n = tt
go_where_none text p (m ∷ ms) r n = (as_case text (m.site.point == p) false m.reply n.0 r.0, go_where_none text p ms r.1 n.1)

in_case : (plan : List Rig) (b : Bool) → b ≡ true → Contains (cond b (plan ∷ []) []) plan
in_case plan true e = contains_head plan []
in_case plan false e = absurd cc

-- ---- the grown plan of such a run: at the hit at which fault d acts, this fault is sticky

record Turned (t : Subject) (d : ℕ) (ms : List Met) : Type 0 where
  plan : List Rig
  in' : Contains (onward t d) plan
  can : CanAct plan
  runs : run_of_plan t plan ≡ ms

turned_at : (t : Subject) → IsLawful t → (d : ℕ) (text : Option (List ℕ)) (ms b : List Met) (m : Met) (a : List Met) → IsPath t.asks t.limit [] ms → IsOfKinds t.kinds ms → ms ≡ b ++ m ∷ a → m.reply ≡ Return text → length (faults [] b) + 1 ≡ d
    → ReturnsOnward text m.site.point a → First (λ (z : Met). z.site.point == m.site.point) a → Turned t d ms
unfolding onward
turned_at t l d text ms b m a way kinds split ret count on f =
    let s : Site = m.site in
    let rs : List Rig = faults [] b in
    let leaf : List Rig = rig s (OnceReturn text) ∷ rs in
    let plan : List Rig = from_then text s ∷ rs in
    let x : List Met = f.front in
    let two : Met = f.one in
    let path : IsPath t.asks t.limit [] (b ++ m ∷ a) = subst (λ (l : List Met). IsPath t.asks t.limit [] l) split way in
    let of : IsOfKinds t.kinds (b ++ m ∷ a) = subst (IsOfKinds t.kinds) split kinds in
    let fresh : Fresh s b = hit_fresh t.asks t.limit b m a path in
    let hit : s.hit ≡ times_met s.point b + 1 = hit_is t.asks t.limit b m a path in
    let num : Numbered b = path_numbered t.asks t.limit [] b (m ∷ a) tt path in
    let among : AreAmong rs b = faults_among t.asks t.limit b (m ∷ a) path in
    let can : CanAct plan = onward_can text rs b s (omega (arith, hit)) fresh (are_earlier rs b s num hit among) among in
    let front : AnsweredBy (answers_of plan) b = before_onward text rs b s num hit (faults_answer t.asks t.limit b (m ∷ a) path) in
    let mine : answers_of plan s ≡ Return text = reply_here s.point s.hit (from_then text s) rs (acts_from text s s.point s.hit refl (omega arith)) in
    let back : AnsweredBy (answers_of plan) a =
    all_after text rs b s a hit among on (rest_fresh t.asks t.limit b (m ∷ a) path).1 (rest_later t.asks t.limit b (m ∷ a) path).1
    in
    let answered : AnsweredBy (answers_of plan) (b ++ m ∷ a) = all_append (λ z. z.reply ≡ answers_of plan z.site) b (m ∷ a) front (ret ∙ sym mine, back) in
    let runs : run_of_plan t plan ≡ b ++ m ∷ a = same_path t.asks (answers_of plan) t.limit [] (run_of_plan t plan) (b ++ m ∷ a) (plan_path t plan) path (plan_answered t l plan can) answered in
    let begin : List Met = b ++ m ∷ x in
    let whole : b ++ m ∷ a ≡ begin ++ two ∷ f.back = ap (λ (l : List Met). b ++ m ∷ l) f.split ∙ sym (append_assoc b (m ∷ x) (two ∷ f.back)) in
    let path' : IsPath t.asks t.limit [] (begin ++ two ∷ f.back) = subst (λ (l : List Met). IsPath t.asks t.limit [] l) whole path in
    let of' : IsOfKinds t.kinds begin = all_left _ begin (two ∷ f.back) (subst (IsOfKinds t.kinds) whole of) in
    let go : AllGo x = go_where_none text s.point x (all_left _ x (two ∷ f.back) (subst (ReturnsOnward text s.point) f.split on)) f.earlier in
    let told : faults [] begin ≡ leaf = faults_both [] b (m ∷ x) ∙ ap (λ (r : Reply). faults (noted s r rs) x) ret ∙ faults_none leaf x go in
    let st = begins t l begin two f.back path' in
    let next : Met = met two.site Go in
    let run : run_of_plan t leaf ≡ begin ++ next ∷ st.rest = ap (run_of_plan t) (sym told) ∙ st.whole in
    let own : faults [] (run_of_plan t leaf) ≡ leaf = ap (faults []) run ∙ faults_both [] begin (next ∷ st.rest) ∙ ap (λ (r : List Rig). faults r (next ∷ st.rest)) told ∙ faults_none leaf (next ∷ st.rest) (refl, st.still) in
    let leaf_kinds : IsOfKinds t.kinds (run_of_plan t leaf) =
    subst (IsOfKinds t.kinds) (sym run) (all_append _ begin (next ∷ st.rest) of' (inl refl, all_weaker (λ z. z.reply ≡ Go) _ (λ z e. inl e) st.rest st.still))
    in
    let size : length (faults [] (run_of_plan t leaf)) ≡ d = ap (λ (r : List Rig). length r) own ∙ (let e : suc (length rs) ≡ d = omega (arith, count) in e) in
    let there : Contains (level t d) leaf = subst (Contains (level t d)) own (in_level t l d (run_of_plan t leaf) (plan_path t leaf) leaf_kinds size) in
    let after : hits_after s (run_of_plan t leaf) ≡ x ++ next ∷ st.rest = ap (hits_after s) (run ∙ append_assoc b (m ∷ x) (next ∷ st.rest)) ∙ hits_after_split s b m (x ++ next ∷ st.rest) fresh refl in
    let again : is_hit_again s (run_of_plan t leaf) ≡ true = ap (list_any (λ (z : Met). z.site.point == s.point)) after ∙ any_in (λ (z : Met). z.site.point == s.point) x next st.rest f.passes in
    record {
      plan = plan;
      in' = contains_flat (onward_of t) (level t d) leaf plan there (in_case plan (is_hit_again s (run_of_plan t leaf)) again);
      can = can;
      runs = runs ∙ sym split;
    }

later_part : (text : Option (List ℕ)) (p : ℕ) (m : Met) (ms b : List Met) (n : Met) (a : List Met) → m.site.point ≡ p → m.reply ≡ Return text → ReturnsOnward text p ms → m ∷ ms ≡ b ++ n ∷ a → is_fault n.reply ≡ true
    → (n.site.point ≡ p) × (n.reply ≡ Return text) × ReturnsOnward text p a
later_part text p m ms b n a point ret on split acts =
    let whole : ReturnsOnward text p (m ∷ ms) = (ret ∙ sym (ap (λ x. cond x (Return text) Go) (is_point m.site.point p point)), on) in
    let part : ReturnsOnward text p (n ∷ a) = all_right _ b (n ∷ a) (subst (ReturnsOnward text p) split whole) in
    let here : (n.site.point == p) ≡ true = returns_here text (n.site.point == p) n.reply part.0 acts in
    (same_point n.site.point p here, as_case text (n.site.point == p) true n.reply here part.0, part.1)

turned : (t : Subject) → IsLawful t → (d : ℕ) (text : Option (List ℕ)) (ms before after : List Met) (m : Met) → IsPath t.asks t.limit [] ms → IsOfKinds t.kinds ms → ms ≡ before ++ m ∷ after → m.reply ≡ Return text → acting before < d
    → ReturnsOnward text m.site.point after → d < acting ms → Turned t d ms
turned t l d text ms before after m way kinds split ret few on many =
    let p : ℕ = m.site.point in
    let early : List Rig = faults [] before in
    let all : faults [] ms ≡ faults early (m ∷ after) = ap (faults []) split ∙ faults_both [] before (m ∷ after) in
    let more : length (faults early (m ∷ after)) ≡ acting ms = ap (λ (r : List Rig). length r) (sym all) ∙ faults_length ms in
    let less : length early ≡ acting before = faults_length before in
    let cut = cut_at d early (m ∷ after) (omega (arith, less, few)) (omega (arith, more, many)) in
    let part = later_part text p m after cut.b cut.m cut.a refl ret on cut.split cut.acts in
    let b : List Met = before ++ cut.b in
    let whole : ms ≡ b ++ cut.m ∷ cut.a = split ∙ ap (λ (l : List Met). before ++ l) cut.split ∙ sym (append_assoc before cut.b (cut.m ∷ cut.a)) in
    let count : length (faults [] b) + 1 ≡ d = ap (λ (r : List Rig). length r + 1) (faults_both [] before cut.b) ∙ cut.count in
    let on' : ReturnsOnward text cut.m.site.point cut.a = subst (λ q. ReturnsOnward text q cut.a) (sym part.0) part.2 in
    elim (first_or_none (λ (z : Met). z.site.point == cut.m.site.point) cut.a (list_any (λ (z : Met). z.site.point == cut.m.site.point) cut.a) refl) [
      | inl f ↦ turned_at t l d text ms b cut.m cut.a way kinds whole part.1 count on' f
      | inr none ↦
          let go : AllGo cut.a = go_where_none text cut.m.site.point cut.a on' none in
          let leaf : List Rig = rig cut.m.site (OnceReturn text) ∷ faults [] b in
          let told : faults [] ms ≡ leaf =
          ap (faults []) whole ∙ faults_both [] b (cut.m ∷ cut.a) ∙ ap (λ (r : Reply). faults (noted cut.m.site r (faults [] b)) cut.a) part.1 ∙ faults_none leaf cut.a go
          in
          let size : length (faults [] ms) ≡ suc (length (faults [] b)) = ap (λ (r : List Rig). length r) told in
          let is = faults_length ms in
          absurd (omega (arith, size, count, many, is))
    ]

pub tries_onward : (t : Subject) → IsLawful t → (d : ℕ) → TriesOnward t d
tries_onward t l d c before after m text split ret few on =
    let ms : List Met = run_in t c in
    elim (cases_lt d (acting ms)) [
      | inl many ↦
          let k = turned t l d text ms before after m (case_path t c) c.of_kinds split ret few on many in
          one_of (IsTried t c) (grown t d) k.plan (Contains-append_right (levels t d) (onward t d) k.plan k.in') (is_tried t l c k.plan k.can k.runs) (no_two_tried t c (grown t d) (runs_nothing_twice t l d))
      | inr within ↦
          one_of (IsTried t c) (grown t d) (faults [] ms) (Contains-append_left (levels t d) (onward t d) (faults [] ms) (level_in_levels t d (acting ms) (faults [] ms) (omega (arith, within)) (case_in_level t l c)))
          (case_plan t l c) (no_two_tried t c (grown t d) (runs_nothing_twice t l d))
    ]
