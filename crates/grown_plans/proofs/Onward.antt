-- Plans whose last fault is sticky: more faults act in their runs than the levels count, and their leaf follows from the first of these.
use Rattle.std.proofs.Common.{◌≡◌, ℕ, suc, ◌+◌, ◌<◌, ◌≤◌, ◌==◌, ◌&&◌, ◌||◌, nat_le, inl, inr, Bool, true, false, cond, Option, List, [], ◌∷◌, ◌++◌, length, refl, ap, sym, ◌∙◌, subst, arith, append_assoc, length-append}
use Rattle.std.specs.List.{AllByRecursion, list_any}
use Rattle.std.proofs.lemmas.Bool.{cases_lt}
use Rattle.std.proofs.lemmas.Bool.Decides.{nat_tests}
use Rattle.action_eval.specs.declared.rig.Site.{Site}
use Rattle.action_eval.specs.declared.rig.Rig.{Rig}
use Rattle.action_eval.specs.declared.rig.Kind.{Kind}
use Rattle.action_eval.specs.declared.rig.Kind.TheVariants.{OnceReturn, OnwardReturn}
use Rattle.action_eval.specs.Answers.{Reply, Go, Return}
use Rattle.action_eval.specs.RiggedScenario.{rig, text_of}
use Rattle.plan_gen.specs.RiggedAnswers.{is_onward, acts_at, reply_by}
use Rattle.grown_plans.specs.Runs.{Met, met, acting}
use Rattle.grown_plans.specs.GrownPlans.{Subject, run_of_plan, hits_after, is_once_return, is_hit_again, onward_of, level, levels, onward, grown}
use Rattle.grown_plans.specs.Promises.{EachTwo, IsLawful, ReturnsOnward, RunsNothingTwice, NeedsNoSeed}
use Rattle.grown_plans.proofs.Members.{all_weaker, all_append, all_left, all_right, all_both, all_flat, two_append, two_flat, two_weaker, two_with}
use Rattle.grown_plans.proofs.Paths.{IsPath, Numbered, Fresh, AnsweredBy, times_met, times_both, times_push, parted, path_numbered, hit_fresh, rest_fresh, rest_later, hit_is}
use Rattle.grown_plans.proofs.RiggedScenarios.{CanAct, ActApart, reply_here, reply_there, kind_once}
use Rattle.grown_plans.proofs.PlanRuns.{answers_of, plan_path, plan_answered, needs_no_seed}
use Rattle.grown_plans.proofs.Faults.{noted, faults, faults_both, faults_none, faults_length, faults_onto, AllGo, acts_self, acts_not, acts_once, AreAmong, can_act, faults_among, among_quiet, EndsIn, last_fault}
use Rattle.grown_plans.proofs.Levels.{IsGrown, hits_after_split, level_grown}
use Rattle.grown_plans.proofs.Apart.{Differ, RunApart, IsGrownTo, levels_grown, levels_run_apart, level_apart}

-- ---- what a sticky fault answers

abbrev pub from_then : Option (List ℕ) → Site → Rig
from_then text s = rig s (OnwardReturn text)

pub acts_from : (text : Option (List ℕ)) (s : Site) (p k : ℕ) → s.point ≡ p → s.hit ≤ k → acts_at p k (from_then text s) ≡ true
acts_from text s p k e h =
    let x : (s.point == p) ≡ true = grind (arith, nat_tests, e) in
    let y : nat_le s.hit k ≡ true = grind (arith, nat_tests, h) in
    ap (λ b. b && nat_le s.hit k) x ∙ y

not_yet_case : (s : Site) (p k : ℕ) (x : Bool) → (s.point == p) ≡ x → (s.point ≡ p → k < s.hit) → (x && nat_le s.hit k) ≡ false
not_yet_case s p k true e h =
    let less : k < s.hit = h (let goal : s.point ≡ p = grind (arith, nat_tests, e) in goal) in
    grind (arith, nat_tests, less)
not_yet_case s p k false e h = refl

pub acts_not_yet : (text : Option (List ℕ)) (s : Site) (p k : ℕ) → (s.point ≡ p → k < s.hit) → acts_at p k (from_then text s) ≡ false
acts_not_yet text s p k h = not_yet_case s p k (s.point == p) refl h

-- faults at earlier hits of its point, or at other points, act nowhere with it
abbrev pub IsEarlier : Site → Rig → Type 0
IsEarlier s x = s.point ≡ x.site.point → x.site.hit < s.hit

apart_case : (s : Site) (x : Rig) (p k : ℕ) (a b c : Bool) → (s.point == p) ≡ a → nat_le s.hit k ≡ b → (x.site.point == p) ≡ c → IsEarlier s x → (a && b) ≡ true → (c && (x.site.hit == k)) ≡ false
apart_case s x p k true true true e f h earlier t =
    let here : s.point ≡ p = grind (arith, nat_tests, e) in
    let there : x.site.point ≡ p = grind (arith, nat_tests, h) in
    let le : s.hit ≤ k = grind (arith, nat_tests, f) in
    let less : x.site.hit < s.hit = earlier (here ∙ sym there) in
    grind (arith, nat_tests, le, less)
apart_case s x p k true true false e f h earlier t = refl
apart_case s x p k true false c e f h earlier t = absurd cc
apart_case s x p k false b c e f h earlier t = absurd cc

onward_apart : (text : Option (List ℕ)) (s : Site) (x : Rig) → is_onward x.kind ≡ false → IsEarlier s x → ActApart (from_then text s) x
onward_apart text s x once earlier p k e = acts_once x.site x.kind p k once ∙ apart_case s x p k (s.point == p) (nat_le s.hit k) (x.site.point == p) refl refl refl earlier e

-- the faults among the hits before a hit are earlier ones of its point, or of other points
pub are_earlier : (rs : List Rig) (b : List Met) (s : Site) → Numbered b → s.hit ≡ times_met s.point b + 1 → AreAmong rs b → AllByRecursion (IsEarlier s) rs
are_earlier rs b s num hit a =
    all_weaker (λ r. Fresh r.site b → ⊥) (IsEarlier s)
    (λ x n same. elim (cases_lt x.site.hit s.hit) [
      | inl less ↦ less
      | inr more ↦ absurd (n (all_weaker (λ (y : Met). y.site.hit ≤ times_met y.site.point b) (λ (y : Met). y.site ≡ x.site → ⊥)
          (λ y h e.
          let P : Site → Type 0 = λ z. z.hit ≤ times_met z.point b in
          let at : x.site.hit ≤ times_met x.site.point b = subst P e h in
          let times : times_met x.site.point b ≡ times_met s.point b = ap (λ p. times_met p b) (sym same) in
          omega (arith, at, times, hit, more)) b num))
    ]) rs a.met

pub onward_can : (text : Option (List ℕ)) (rs : List Rig) (b : List Met) (s : Site) → 0 < s.hit → Fresh s b → AllByRecursion (IsEarlier s) rs → AreAmong rs b → CanAct (from_then text s ∷ rs)
onward_can text rs b s some fresh earlier a =
    let can : CanAct rs = can_act rs b a in
    record {
      some = (some, a.some);
      sites_apart = (all_weaker (λ r. Fresh r.site b → ⊥) (λ t. s ≡ t.site → ⊥) (λ r n same. n (subst (λ z. Fresh z b) same fresh)) rs a.met, a.sites_apart);
      act_apart = (all_weaker (λ x. (is_onward x.kind ≡ false) × IsEarlier s x) (ActApart (from_then text s)) (λ x h. onward_apart text s x h.0 h.1) rs (all_both _ _ rs a.once earlier), can.act_apart);
    }

-- before it, hits are answered as without it
pub before_onward : (text : Option (List ℕ)) (rs : List Rig) (b : List Met) (s : Site) → Numbered b → s.hit ≡ times_met s.point b + 1 → AnsweredBy (answers_of rs) b → AnsweredBy (answers_of (from_then text s ∷ rs)) b
before_onward text rs b s num hit a =
    all_weaker (λ (m : Met). (m.reply ≡ answers_of rs m.site) × (m.site.hit ≤ times_met m.site.point b)) (λ (m : Met). m.reply ≡ answers_of (from_then text s ∷ rs) m.site)
    (λ m h. h.0 ∙ sym (reply_there m.site.point m.site.hit (from_then text s) rs (acts_not_yet text s m.site.point m.site.hit
    (λ same.
    let le : m.site.hit ≤ times_met m.site.point b = h.1 in
    let times : times_met m.site.point b ≡ times_met s.point b = ap (λ p. times_met p b) (sym same) in
    omega (arith, le, times, hit))))) b (all_both _ _ b a num)

-- ---- the first member that passes

pub record First {A : Type 0} (test : A → Bool) (xs : List A) : Type 0 where
  pub front : List A
  pub one : A
  pub back : List A
  pub split : xs ≡ front ++ one ∷ back
  pub passes : test one ≡ true
  pub earlier : AllByRecursion (λ x. test x ≡ false) front

first_case : {A : Type 0} (test : A → Bool) (x : A) (xs : List A) (b : Bool) → test x ≡ b → (b || list_any test xs) ≡ true → (list_any test xs ≡ true → First test xs) → First test (x ∷ xs)
first_case test x xs true e h f = record { front = []; one = x; back = xs; split = refl; passes = e; earlier = tt }
first_case {A} test x xs false e h f =
    let r = f h in
    record { front = x ∷ r.front; one = r.one; back = r.back; split = ap (λ (l : List A). x ∷ l) r.split; passes = r.passes; earlier = (e, r.earlier) }

pub first_of_any : {A : Type 0} (test : A → Bool) (xs : List A) → list_any test xs ≡ true → First test xs
first_of_any test [] e = absurd cc
first_of_any test (x ∷ xs) e = first_case test x xs (test x) refl e (first_of_any test xs)

-- ---- a plan's run begins like that of the plan that it grew from

abbrev pub RunsAlike : Subject → List Rig → Type 0
RunsAlike t [] = Unit {0}
RunsAlike t (r ∷ rs) =
    (b : List Met) × (m : Met) × (n : Met) × (x : List Met) × (y : List Met) × (run_of_plan t (r ∷ rs) ≡ b ++ m ∷ x) × (run_of_plan t rs ≡ b ++ n ∷ y) × (m.site ≡ r.site) × (n.site ≡ r.site)
    × CanAct rs

can_rest : (r : Rig) (rs : List Rig) → CanAct (r ∷ rs) → CanAct rs
can_rest r rs c = record { some = c.some.1; sites_apart = c.sites_apart.1; act_apart = c.act_apart.1 }

pub grown_alike : (t : Subject) (n : ℕ) (plan : List Rig) → IsGrown t n plan → RunsAlike t plan
grown_alike t n [] g = tt
grown_alike t n (r ∷ rs) g =
    let (b, past, rest, parents, own, still) = g.prefix in
    (b, met r.site (reply_by r.kind), met r.site Go, rest, past, own, parents, refl, refl, can_rest r rs g.can)

-- The place of a hit in a run follows from the hit.
same_split : (s : Site) (b c : List Met) (m n : Met) (x y : List Met) → b ++ m ∷ x ≡ c ++ n ∷ y → m.site ≡ s → n.site ≡ s → Fresh s b → Fresh s c → b ≡ c
same_split s [] [] m n x y e f g u v = refl
same_split s [] (z ∷ c) m n x y e f g u v = absurd (v.0 (ap (λ (k : Met). k.site) (let h : z ≡ m = cc in h) ∙ f))
same_split s (z ∷ b) [] m n x y e f g u v = absurd (u.0 (ap (λ (k : Met). k.site) (let h : z ≡ n = cc in h) ∙ g))
same_split s (z ∷ b) (w ∷ c) m n x y e f g u v =
    let rest : b ≡ c = same_split s b c m n x y (let h : b ++ m ∷ x ≡ c ++ n ∷ y = cc in h) f g u.1 v.1 in
    let first : z ≡ w = cc in
    ap (λ (k : Met). k ∷ b) first ∙ ap (λ (l : List Met). w ∷ l) rest

-- ---- a plan with a sticky last fault, from its leaf

-- A return at a hit, after so many acting faults, and at each later hit of its point; no other fault acts later.
pub record ReturnsFrom (n : ℕ) (ms : List Met) : Type 0 where
  pub before : List Met
  pub hit : Met
  pub after : List Met
  pub text : Option (List ℕ)
  pub split : ms ≡ before ++ hit ∷ after
  pub returns : hit.reply ≡ Return text
  pub earlier : suc (acting before) ≡ n
  pub onward : ReturnsOnward text hit.site.point after

pub record IsOnwardOf (t : Subject) (leaf plan : List Rig) : Type 0 where
  pub can : CanAct plan
  pub sticky : ReturnsFrom (length leaf) (run_of_plan t plan)
  pub further : List Rig
  pub next : Rig
  pub tells : faults [] (run_of_plan t plan) ≡ further ++ next ∷ leaf
  pub alike : RunsAlike t plan

not_point : (p q : ℕ) → (q == p) ≡ false → p ≡ q → ⊥
not_point p q e same = let yes : (q == p) ≡ true = grind (arith, nat_tests, same) in absurd (let no : true ≡ false = sym yes ∙ e in cc)

-- behind its hit, a sticky fault answers each hit of its point, and no earlier fault acts
returns_on : (t : Subject) (text : Option (List ℕ)) (rs : List Rig) (b : List Met) (m : Met) (a : List Met) → IsPath t.asks t.limit [] (b ++ m ∷ a) → AreAmong rs b
    → AnsweredBy (answers_of (from_then text m.site ∷ rs)) a → ReturnsOnward text m.site.point a
returns_on t text rs b m a path among answered =
    all_weaker (λ (x : Met). ((x.reply ≡ answers_of (from_then text m.site ∷ rs) x.site) × Fresh x.site b) × (times_met x.site.point (b ++ m ∷ []) < x.site.hit))
    (λ (x : Met). x.reply ≡ cond (x.site.point == m.site.point) (Return text) Go) (λ x h. h.0.0 ∙ by_point x h.0.1 h.1 (x.site.point == m.site.point) refl) a
    (all_both _ _ a (all_both _ _ a answered (rest_fresh t.asks t.limit b (m ∷ a) path).1)
    (rest_later t.asks t.limit (b ++ m ∷ []) a (subst (λ (ms : List Met). IsPath t.asks t.limit [] ms) (sym (append_assoc b (m ∷ []) a)) path)))
  where
    hit : m.site.hit ≡ times_met m.site.point b + 1
    hit = hit_is t.asks t.limit b m a path

    by_point : (x : Met) → Fresh x.site b → times_met x.site.point (b ++ m ∷ []) < x.site.hit → (c : Bool) → (x.site.point == m.site.point) ≡ c
        → answers_of (from_then text m.site ∷ rs) x.site ≡ cond c (Return text) Go
    by_point x fresh late true e =
        let same : m.site.point ≡ x.site.point = grind (arith, nat_tests, e) in
        let own : (m.site.point == x.site.point) ≡ true = grind (arith, nat_tests, e) in
        let pushed : times_met x.site.point (b ++ m ∷ []) ≡ times_met x.site.point b + 1 = times_push x.site.point b m ∙ ap (λ c. times_met x.site.point b + cond c 1 0) own in
        let times : times_met m.site.point b ≡ times_met x.site.point b = ap (λ p. times_met p b) same in
        reply_here x.site.point x.site.hit (from_then text m.site) rs (acts_from text m.site x.site.point x.site.hit same (omega (arith, late, pushed, times, hit)))
    by_point x fresh late false e =
        reply_there x.site.point x.site.hit (from_then text m.site) rs (acts_not_yet text m.site x.site.point x.site.hit (λ same. absurd (not_point m.site.point x.site.point e same)))
        ∙ among_quiet rs b x.site among fresh

once_return : (k : Kind) → k ≡ OnceReturn (text_of k) → is_onward k ≡ false
once_return k e = ap is_onward e

onward_runs : (t : Subject) → IsLawful t → (n : ℕ) (r : Rig) (rs : List Rig) → IsGrown t n (r ∷ rs) → r.kind ≡ OnceReturn (text_of r.kind) → (h : EndsIn [] (run_of_plan t (r ∷ rs)) r rs)
    → First (λ (m : Met). m.site.point == r.site.point) h.a → IsOnwardOf t (r ∷ rs) (from_then (text_of r.kind) r.site ∷ rs)
onward_runs t l n r rs g kind h f =
    let leaf : List Rig = r ∷ rs in
    let s : Site = r.site in
    let text = text_of r.kind in
    let plan : List Rig = from_then text s ∷ rs in
    let x : List Met = f.front in
    let two : Met = f.one in
    let whole : List Met = h.b ++ h.m ∷ h.a in
    let path : IsPath t.asks t.limit [] (h.b ++ h.m ∷ h.a) = subst (λ (ms : List Met). IsPath t.asks t.limit [] ms) h.split (plan_path t leaf) in
    let answered : AnsweredBy (answers_of leaf) (h.b ++ h.m ∷ h.a) = subst (AnsweredBy (answers_of leaf)) h.split (plan_answered t l leaf g.can) in
    let fresh : Fresh s h.b = subst (λ z. Fresh z h.b) h.site (hit_fresh t.asks t.limit h.b h.m h.a path) in
    let hit : s.hit ≡ times_met s.point h.b + 1 = subst (λ (z : Site). z.hit ≡ times_met z.point h.b + 1) h.site (hit_is t.asks t.limit h.b h.m h.a path) in
    let some : 0 < s.hit = omega (arith, hit) in
    let num : Numbered h.b = path_numbered t.asks t.limit [] h.b (h.m ∷ h.a) tt path in
    let among : AreAmong rs h.b = subst (λ (z : List Rig). AreAmong z h.b) h.earlier (faults_among t.asks t.limit h.b (h.m ∷ h.a) path) in
    let can : CanAct plan = onward_can text rs h.b s some fresh (are_earlier rs h.b s num hit among) among in
    let once : is_onward r.kind ≡ false = once_return r.kind kind in
    let front : AnsweredBy (answers_of rs) h.b =
    all_weaker (λ (m : Met). (m.reply ≡ answers_of leaf m.site) × (m.site ≡ s → ⊥)) (λ (m : Met). m.reply ≡ answers_of rs m.site)
    (λ m k. k.0 ∙ reply_there m.site.point m.site.hit r rs (acts_not s m.site r.kind once (λ e. k.1 (sym e)))) h.b (all_both _ _ h.b (all_left (λ m. m.reply ≡ answers_of leaf m.site) h.b (h.m ∷ h.a) answered) fresh)
    in
    let first : AnsweredBy (answers_of plan) h.b = before_onward text rs h.b s num hit front in
    let at : h.m.reply ≡ Return text =
    (all_right (λ m. m.reply ≡ answers_of leaf m.site) h.b (h.m ∷ h.a) answered).0 ∙ ap (answers_of leaf) h.site ∙ reply_here s.point s.hit r rs (acts_self s r.kind once) ∙ ap reply_by kind
    in
    let mine : answers_of plan s ≡ Return text = reply_here s.point s.hit (from_then text s) rs (acts_from text s s.point s.hit refl (omega arith)) in
    let second : h.m.reply ≡ answers_of plan h.m.site = at ∙ sym mine ∙ ap (answers_of plan) (sym h.site) in
    let still : AllGo (x ++ two ∷ f.back) = subst AllGo f.split h.still in
    let path' : IsPath t.asks t.limit [] (h.b ++ h.m ∷ (x ++ two ∷ f.back)) = subst (λ (ms : List Met). IsPath t.asks t.limit [] (h.b ++ h.m ∷ ms)) f.split path in
    let new : AllByRecursion (λ (m : Met). Fresh m.site h.b) (h.m ∷ (x ++ two ∷ f.back)) = rest_fresh t.asks t.limit h.b (h.m ∷ (x ++ two ∷ f.back)) path' in
    let third : AnsweredBy (answers_of plan) x =
    all_weaker (λ (m : Met). (m.reply ≡ Go) × ((m.site.point == s.point) ≡ false) × Fresh m.site h.b) (λ (m : Met). m.reply ≡ answers_of plan m.site)
    (λ m k. k.0 ∙ sym (reply_there m.site.point m.site.hit (from_then text s) rs (acts_not_yet text s m.site.point m.site.hit (λ same. absurd (not_point s.point m.site.point k.1 same))) ∙ among_quiet rs h.b m.site among k.2)) x
    (three x (all_left (λ m. m.reply ≡ Go) x (two ∷ f.back) still) f.earlier (all_left (λ m. Fresh m.site h.b) x (two ∷ f.back) new.1))
    in
    let begin : List Met = h.b ++ h.m ∷ x in
    let path'' : IsPath t.asks t.limit [] (begin ++ two ∷ f.back) = subst (λ (ms : List Met). IsPath t.asks t.limit [] ms) (sym (append_assoc h.b (h.m ∷ x) (two ∷ f.back))) path' in
    let answers : AnsweredBy (answers_of plan) begin = all_append (λ m. m.reply ≡ answers_of plan m.site) h.b (h.m ∷ x) first (second, third) in
    let parts = parted t.asks (answers_of plan) t.limit [] begin two f.back (run_of_plan t plan) path'' (plan_path t plan) answers (plan_answered t l plan can) in
    let again : two.site.hit ≡ times_met two.site.point begin + 1 = hit_is t.asks t.limit begin two f.back path'' in
    let point : s.point ≡ two.site.point = (let e = f.passes in let goal : two.site.point ≡ s.point = grind (arith, nat_tests, e) in sym goal) in
    let more : times_met two.site.point begin ≡ times_met two.site.point h.b + times_met two.site.point (h.m ∷ x) = times_both two.site.point h.b (h.m ∷ x) in
    let before : times_met s.point h.b ≡ times_met two.site.point h.b = ap (λ p. times_met p h.b) point in
    let later : s.hit ≤ two.site.hit = omega (arith, again, more, before, hit) in
    let returns : answers_of plan two.site ≡ Return text = reply_here two.site.point two.site.hit (from_then text s) rs (acts_from text s two.site.point two.site.hit point later) in
    let run : run_of_plan t plan ≡ begin ++ met two.site (Return text) ∷ parts.0 = parts.1 ∙ ap (λ (a : Reply). begin ++ met two.site a ∷ parts.0) returns in
    let told : faults [] begin ≡ leaf =
    faults_both [] h.b (h.m ∷ x) ∙ ap (λ (z : List Rig). faults (noted h.m.site h.m.reply z) x) h.earlier ∙ ap (λ (z : List Rig). faults z x) h.last ∙ faults_none leaf x (all_left (λ m. m.reply ≡ Go) x (two ∷ f.back) still)
    in
    let onto = faults_onto (rig two.site (OnceReturn text) ∷ leaf) parts.0 in
    let (b, past, rest, parents, own, calm) = g.prefix in
    let own_path : IsPath t.asks t.limit [] (b ++ met s (reply_by r.kind) ∷ rest) = subst (λ (ms : List Met). IsPath t.asks t.limit [] ms) own (plan_path t leaf) in
    let same : b ≡ h.b =
    same_split s b h.b (met s (reply_by r.kind)) h.m rest h.a (sym own ∙ h.split) refl h.site (hit_fresh t.asks t.limit b (met s (reply_by r.kind)) rest own_path) fresh
    in
    let after : List Met = x ++ met two.site (Return text) ∷ parts.0 in
    let whole_run : run_of_plan t plan ≡ h.b ++ h.m ∷ after = run ∙ append_assoc h.b (h.m ∷ x) (met two.site (Return text) ∷ parts.0) in
    let all_answered : AnsweredBy (answers_of plan) (h.b ++ h.m ∷ after) = subst (AnsweredBy (answers_of plan)) whole_run (plan_answered t l plan can) in
    let whole_path : IsPath t.asks t.limit [] (h.b ++ h.m ∷ after) = subst (λ (ms : List Met). IsPath t.asks t.limit [] ms) whole_run (plan_path t plan) in
    let after_answered : AnsweredBy (answers_of (from_then text h.m.site ∷ rs)) after =
    subst (λ (z : Site). AnsweredBy (answers_of (from_then text z ∷ rs)) after) (sym h.site) (all_right (λ m. m.reply ≡ answers_of plan m.site) h.b (h.m ∷ after) all_answered).1
    in
    let first_faults : acting h.b ≡ length rs = sym (faults_length h.b) ∙ ap (λ (z : List Rig). length z) h.earlier in
    record {
      can = can;
      sticky = record {
        before = h.b;
        hit = h.m;
        after = after;
        text = text;
        split = whole_run;
        returns = at;
        earlier = ap suc first_faults;
        onward = returns_on t text rs h.b h.m after whole_path among after_answered;
      };
      further = onto.0;
      next = rig two.site (OnceReturn text);
      alike = (
        h.b,
        h.m,
        met s Go,
        after,
        past,
        whole_run,
        parents ∙ ap (λ (l : List Met). l ++ met s Go ∷ past) same,
        h.site,
        refl,
        can_rest r rs g.can,
      );
      tells = ap (faults []) run ∙ faults_both [] begin (met two.site (Return text) ∷ parts.0) ∙ ap (λ (z : List Rig). faults (rig two.site (OnceReturn text) ∷ z) parts.0) told ∙ onto.1;
    }
  where
    three : (xs : List Met) → AllGo xs → AllByRecursion (λ m. (m.site.point == r.site.point) ≡ false) xs → AllByRecursion (λ (m : Met). Fresh m.site h.b) xs
        → AllByRecursion (λ (m : Met). (m.reply ≡ Go) × ((m.site.point == r.site.point) ≡ false) × Fresh m.site h.b) xs
    three [] a b c = tt
    three (m ∷ xs) a b c = ((a.0, b.0, c.0), three xs a.1 b.1 c.1)

both_so : (a b : Bool) → (a && b) ≡ true → (a ≡ true) × (b ≡ true)
both_so true true e = (refl, refl)
both_so true false e = absurd cc
both_so false b e = absurd cc

onward_case : (t : Subject) → IsLawful t → (n : ℕ) (r : Rig) (rs : List Rig) → IsGrown t n (r ∷ rs) → (b : Bool) → (is_once_return r.kind && is_hit_again r.site (run_of_plan t (r ∷ rs))) ≡ b
    → AllByRecursion (IsOnwardOf t (r ∷ rs)) (cond b ((from_then (text_of r.kind) r.site ∷ rs) ∷ []) [])
onward_case t l n r rs g false e = tt
onward_case t l n r rs g true e = elim (last_fault [] (run_of_plan t (r ∷ rs)) r rs g.runs) [
  | inl h ↦ absurd (let no : [] ≡ r ∷ rs = h.1 in cc)
  | inr h ↦
      let both = both_so (is_once_return r.kind) (is_hit_again r.site (run_of_plan t (r ∷ rs))) e in
      let path : IsPath t.asks t.limit [] (h.b ++ h.m ∷ h.a) = subst (λ (ms : List Met). IsPath t.asks t.limit [] ms) h.split (plan_path t (r ∷ rs)) in
      let fresh : Fresh r.site h.b = subst (λ z. Fresh z h.b) h.site (hit_fresh t.asks t.limit h.b h.m h.a path) in
      let after : hits_after r.site (run_of_plan t (r ∷ rs)) ≡ h.a = ap (hits_after r.site) h.split ∙ hits_after_split r.site h.b h.m h.a fresh h.site in
      let any : list_any (λ (m : Met). m.site.point == r.site.point) h.a ≡ true = ap (list_any (λ (m : Met). m.site.point == r.site.point)) (sym after) ∙ both.1 in
      (onward_runs t l n r rs g (kind_once r.kind both.0) h (first_of_any (λ (m : Met). m.site.point == r.site.point) h.a any), tt)
]

onwards_of : (t : Subject) → IsLawful t → (n : ℕ) (plan : List Rig) → IsGrown t n plan → AllByRecursion (IsOnwardOf t plan) (onward_of t plan)
onwards_of t l n [] g = tt
onwards_of t l n (r ∷ rs) g = onward_case t l n r rs g (is_once_return r.kind && is_hit_again r.site (run_of_plan t (r ∷ rs))) refl

-- ---- no run twice

same_end : (a b x y : List Rig) → a ++ x ≡ b ++ y → length x ≡ length y → x ≡ y
same_end [] [] x y e h = e
same_end [] (z ∷ b) x y e h = let l : length x ≡ length ((z ∷ b) ++ y) = ap (λ (w : List Rig). length w) e in absurd (omega (arith, l, h, length-append (z ∷ b) y))
same_end (z ∷ a) [] x y e h = let l : length ((z ∷ a) ++ x) ≡ length y = ap (λ (w : List Rig). length w) e in absurd (omega (arith, l, h, length-append (z ∷ a) x))
same_end (z ∷ a) (w ∷ b) x y e h = same_end a b x y (let tails : a ++ x ≡ b ++ y = cc in tails) h

leaves_apart : (t : Subject) (d : ℕ) (a b u v : List Rig) → IsGrown t d a → IsGrown t d b → Differ a b → IsOnwardOf t a u → IsOnwardOf t b v → RunApart t u v
leaves_apart t d a b u v g h n x y e =
    let many : length a ≡ length b = g.count ∙ sym h.count in
    let same : x.next ∷ a ≡ y.next ∷ b = same_end x.further y.further (x.next ∷ a) (y.next ∷ b) (sym x.tells ∙ ap (faults []) e ∙ y.tells) (ap (λ k. suc k) many) in
    n (let tails : a ≡ b = cc in tails)

one_each_case : (t : Subject) (plan : List Rig) (b : Bool) → EachTwo (RunApart t) (cond b (plan ∷ []) [])
one_each_case t plan true = (tt, tt)
one_each_case t plan false = tt

one_each : (t : Subject) (plan : List Rig) → EachTwo (RunApart t) (onward_of t plan)
one_each t [] = tt
one_each t (r ∷ rs) = one_each_case t (from_then (text_of r.kind) r.site ∷ rs) (is_once_return r.kind && is_hit_again r.site (run_of_plan t (r ∷ rs)))

onward_apart_each : (t : Subject) → IsLawful t → (d : ℕ) → EachTwo (RunApart t) (onward t d)
unfolding onward
onward_apart_each t l d =
    two_flat (RunApart t) (onward_of t) (level t d) (all_weaker (IsGrown t d) _ (λ plan g. one_each t plan) (level t d) (level_grown t l d))
    (two_weaker (λ a b. IsGrown t d a × IsGrown t d b × Differ a b) _
    (λ a b h. all_weaker (IsOnwardOf t a) _ (λ u x. all_weaker (IsOnwardOf t b) (RunApart t u) (λ v y. leaves_apart t d a b u v h.0 h.1 h.2 x y) (onward_of t b) (onwards_of t l d b h.1)) (onward_of t a) (onwards_of t l d a h.0))
    (level t d) (two_with (IsGrown t d) Differ (level t d) (level_grown t l d) (level_apart t l d)))

abbrev pub IsOnwardAt : Subject → ℕ → List Rig → Type 0
IsOnwardAt t d plan = (leaf : List Rig) × IsGrown t d leaf × IsOnwardOf t leaf plan

pub onward_all : (t : Subject) → IsLawful t → (d : ℕ) → AllByRecursion (IsOnwardAt t d) (onward t d)
unfolding onward
onward_all t l d =
    all_flat (IsOnwardAt t d) (onward_of t) (level t d)
    (all_weaker (IsGrown t d) _ (λ leaf g. all_weaker (IsOnwardOf t leaf) (IsOnwardAt t d) (λ plan x. (leaf, g, x)) (onward_of t leaf) (onwards_of t l d leaf g)) (level t d) (level_grown t l d))

level_onward_apart : (t : Subject) (d : ℕ) (a b : List Rig) → IsGrownTo t d a → IsOnwardAt t d b → RunApart t a b
level_onward_apart t d a b g h e =
    let x = h.2 in
    let same : a ≡ x.further ++ x.next ∷ h.0 = sym g.2.runs ∙ ap (faults []) e ∙ x.tells in
    let many : length a ≡ length (x.further ++ x.next ∷ h.0) = ap (λ (w : List Rig). length w) same in
    let few : g.0 ≤ d = g.1 in
    let own : length a ≡ g.0 = g.2.count in
    let leaf : length h.0 ≡ d = h.1.count in
    omega (arith, many, few, own, leaf, length-append x.further (x.next ∷ h.0))

pub runs_nothing_twice : (t : Subject) → IsLawful t → (d : ℕ) → RunsNothingTwice t d
runs_nothing_twice t l d =
    two_append (RunApart t) (levels t d) (onward t d) (levels_run_apart t l d) (onward_apart_each t l d)
    (all_weaker (IsGrownTo t d) _ (λ a g. all_weaker (IsOnwardAt t d) (RunApart t a) (λ b h. level_onward_apart t d a b g h) (onward t d) (onward_all t l d)) (levels t d) (levels_grown t l d))

pub grown_can : (t : Subject) → IsLawful t → (d : ℕ) → AllByRecursion CanAct (grown t d)
grown_can t l d =
    all_append CanAct (levels t d) (onward t d) (all_weaker (IsGrownTo t d) CanAct (λ plan g. g.2.can) (levels t d) (levels_grown t l d))
    (all_weaker (IsOnwardAt t d) CanAct (λ plan h. h.2.can) (onward t d) (onward_all t l d))

pub no_seed_needed : (t : Subject) → IsLawful t → (d : ℕ) → AllByRecursion (NeedsNoSeed t) (grown t d)
no_seed_needed t l d = all_weaker CanAct (NeedsNoSeed t) (λ plan c. needs_no_seed t l plan c) (grown t d) (grown_can t l d)

-- ---- runs begin alike

pub grown_runs_alike : (t : Subject) → IsLawful t → (d : ℕ) → AllByRecursion (RunsAlike t) (grown t d)
grown_runs_alike t l d =
    all_append (RunsAlike t) (levels t d) (onward t d) (all_weaker (IsGrownTo t d) (RunsAlike t) (λ plan g. grown_alike t g.0 plan g.2) (levels t d) (levels_grown t l d))
    (all_weaker (IsOnwardAt t d) (RunsAlike t) (λ plan h. h.2.alike) (onward t d) (onward_all t l d))
