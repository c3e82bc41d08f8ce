-- What a known part of a list promises if nothing of it is left to be run: a plan that isn't known has a tail that nobody has seen.
use Rattle.std.proofs.Common.{◌≡◌, ◌≢◌, ℕ, zero, suc, ◌+◌, ◌<◌, ◌≤◌, ◌⊎◌, inl, inr, length, ◌&&◌, Bool, true, false, cond, List, [], ◌∷◌, ◌++◌, refl, ap, sym, ◌∙◌, subst, arith, append_assoc}
use Rattle.std.specs.Prelude.{Contains, Option, Some, None, is_none, flat_map}
use Rattle.std.specs.List.{AllByRecursion, filter}
use Rattle.std.proofs.lemmas.List.Elements.{Contains-append_left, Contains-append_right}
use Rattle.std.proofs.lemmas.Bool.{cases_lt}
use Rattle.action_eval.specs.declared.rig.Site.{Site}
use Rattle.action_eval.specs.declared.rig.Rig.{Rig}
use Rattle.action_eval.specs.declared.rig.Kind.{Kind}
use Rattle.action_eval.specs.declared.rig.Kind.TheVariants.{OnceReturn, OnwardReturn, OncePanic}
use Rattle.action_eval.specs.Answers.{Reply, Go, Return}
use Rattle.action_eval.specs.RiggedScenario.{rig, text_of}
use Rattle.plan_gen.specs.RiggedAnswers.{reply_by}
use Rattle.target_trait.specs.declared.judgement.Verdict.TheVariants.{Fail}
use Rattle.grown_plans.specs.Runs.{Met, met, acting, is_fault}
use Rattle.grown_plans.specs.GrownPlans.{Subject, run_of_plan, hits_after, hits_past, grown_at, children, is_once_return, is_hit_again, onward_of, level, levels, levels_to, onward, grown}
use Rattle.grown_plans.specs.Promises.{EachTwo, FaultCase, IsCause, IsLawful, IsOfOne, IsTried, KeepsPrefix, ReturnsOnward, run_in, verdict_in, verdict_of_plan}
use Rattle.grown_plans.proofs.Members.{all_append, all_flat, all_map, all_of, all_right, all_weaker, all_by_contains, all_contained, all_contains, contains_head, contains_none, contains_split, contains_tail, one_of}
use Rattle.grown_plans.proofs.Paths.{AnsweredBy, Fresh, IsPath, hit_fresh, met_is}
use Rattle.grown_plans.proofs.PlanRuns.{answers_of, plan_answered, plan_path}
use Rattle.grown_plans.proofs.Levels.{hits_after_split}
use Rattle.grown_plans.proofs.Apart.{RunApart, level_in_levels, levels_run_apart}
use Rattle.grown_plans.proofs.Cases.{keeps_prefix, no_two_tried, skips_nothing}
use Rattle.grown_plans.proofs.Causes.{has_causes}
use Rattle.grown_runs.specs.known.Known.{KnownRuns, Told, hits_of, hits_told}
use Rattle.grown_runs.specs.known.KnownPart.{are_told, is_reached, is_reached_onward, known_levels, known_part, once_of, to_run}
use Rattle.grown_runs.specs.known.KnownPlans.{level_size}
use Rattle.grown_runs.specs.known.Unseen.{BeginsLike, BeginsUnseen, is_unseen, is_without_hits}
use Rattle.grown_runs.specs.known.SeenPromises.{IsTriedAsSeen}
use Rattle.grown_runs.specs.known.Promises.{EndsAsSeen}
use Rattle.grown_runs.proofs.KnownLemmas.Ends.{filtered, none_left, two_filtered, two_parts}
use Rattle.grown_plans.proofs.Onward.{RunsAlike, acts_from, from_then, grown_can, grown_runs_alike, runs_nothing_twice}
use Rattle.grown_plans.proofs.FromThenOn.{tries_onward}
use Rattle.grown_plans.proofs.RiggedScenarios.{CanAct, reply_here}

-- ---- members

pub contains_filter : {A : Type 0} (p : A → Bool) (xs : List A) (x : A) → Contains xs x → p x ≡ true → Contains (filter p xs) x
contains_filter p [] x c e = absurd (contains_none x c)
contains_filter {A} p (y ∷ ys) x c e = by_place (λ d. contains_filter p ys x d e) c
  where
    here : (b : Bool) → p y ≡ b → y ≡ x → Contains (cond b (y ∷ filter p ys) (filter p ys)) x
    here true f same = subst (Contains (y ∷ filter p ys)) same (contains_head y (filter p ys))
    here false f same = absurd (let no : false ≡ true = sym f ∙ ap p same ∙ e in cc)

    there : (b : Bool) → Contains (filter p ys) x → Contains (cond b (y ∷ filter p ys) (filter p ys)) x
    there true d = contains_tail y x (filter p ys) d
    there false d = d

    by_place : (Contains ys x → Contains (filter p ys) x) → Contains (y ∷ ys) x → Contains (cond (p y) (y ∷ filter p ys) (filter p ys)) x
    by_place further (zero, less, is) = here (p y) refl is
    by_place further (suc k, less, is) = there (p y) (further (k, omega (arith, less), is))

pub contains_filtered : {A : Type 0} (p : A → Bool) (xs : List A) (x : A) → Contains (filter p xs) x → Contains xs x
contains_filtered p xs x c = all_contains (Contains xs) (filter p xs) x (filtered p (Contains xs) xs (all_contained xs)) c

-- ---- the plan that one grew from

-- a plan of a level without its last fault is one of the level before
abbrev TailsIn : List (List Rig) → List Rig → Type 0
TailsIn before [] = ⊥
TailsIn before (r ∷ rs) = Contains before rs

children_tails : (t : Subject) (before : List (List Rig)) (plan : List Rig) → Contains before plan → (ms : List Met) → AllByRecursion (TailsIn before) (flat_map (grown_at t plan) ms)
children_tails t before plan c ms =
    all_flat (TailsIn before) (grown_at t plan) ms
    (all_of (λ m. AllByRecursion (TailsIn before) (grown_at t plan m)) (λ m. all_map (TailsIn before) (λ kind. rig m.site kind ∷ plan) (t.kinds m.site.point) (all_of _ (λ kind. c) (t.kinds m.site.point))) ms)

level_tails : (t : Subject) (n : ℕ) → AllByRecursion (TailsIn (level t n)) (level t (suc n))
unfolding level
level_tails t n =
    all_flat (TailsIn (level t n)) (children t) (level t n) (all_by_contains _ (level t n) (λ plan c. children_tails t (level t n) plan c (hits_past plan (run_of_plan t plan))))

pub tail_in_level : (t : Subject) (n : ℕ) (r : Rig) (rs : List Rig) → Contains (level t (suc n)) (r ∷ rs) → Contains (level t n) rs
tail_in_level t n r rs c = all_contains (TailsIn (level t n)) (level t (suc n)) (r ∷ rs) (level_tails t n) c

first_level : (t : Subject) → AllByRecursion (λ plan. plan ≡ []) (level t 0)
unfolding level
first_level t = (refl, tt)

-- a plan of a level: the empty one, or one with a last fault
not_first : {A : Type 0} (t : Subject) (r : Rig) (rs : List Rig) → Contains (level t 0) (r ∷ rs) → A
not_first t r rs c = absurd (let no : r ∷ rs ≡ [] = all_contains (λ (plan : List Rig). plan ≡ []) (level t 0) (r ∷ rs) (first_level t) c in cc)

abbrev IsLonger : List Rig → Type 0
IsLonger [] = ⊥
IsLonger (r ∷ rs) = Unit {0}

longer_tails : (before : List (List Rig)) (plan : List Rig) → TailsIn before plan → IsLonger plan
longer_tails before [] h = h
longer_tails before (r ∷ rs) h = tt

not_empty : (t : Subject) (n : ℕ) → Contains (level t (suc n)) [] → ⊥
not_empty t n c = all_contains IsLonger (level t (suc n)) [] (all_weaker (TailsIn (level t n)) IsLonger (longer_tails (level t n)) (level t (suc n)) (level_tails t n)) c

-- the level at which a plan of the first levels stands
pub record StandsIn (t : Subject) (d : ℕ) (plan : List Rig) : Type 0 where
  pub n : ℕ
  pub le : n ≤ d
  pub in_level : Contains (level t n) plan

stand_in : (t : Subject) (d : ℕ) → AllByRecursion (StandsIn t d) (levels t d)
unfolding levels_to
stand_in t zero = all_by_contains (StandsIn t 0) (level t 0) (λ plan c. record { n = 0; le = omega arith; in_level = c })
stand_in t (suc d) =
    all_append (StandsIn t (suc d)) (levels t d) (level t (suc d))
    (all_weaker (StandsIn t d) (StandsIn t (suc d)) (λ plan s. let le = s.le in record { n = s.n; le = omega (arith, le); in_level = s.in_level }) (levels t d) (stand_in t d))
    (all_by_contains (StandsIn t (suc d)) (level t (suc d)) (λ plan c. record { n = suc d; le = omega arith; in_level = c }))

pub stands_in : (t : Subject) (d : ℕ) (plan : List Rig) → Contains (levels t d) plan → StandsIn t d plan
stands_in t d plan c = all_contains (StandsIn t d) (levels t d) plan (stand_in t d) c

-- ---- where a plan's run leaves that of the plan which it grew from, only hits that go on follow

abbrev AllGo : List Met → Type 0
AllGo ms = AllByRecursion (λ m. m.reply ≡ Go) ms

pub record Leaves (t : Subject) (r : Rig) (rs : List Rig) : Type 0 where
  pub before : List Met
  pub past : List Met
  pub rest : List Met
  pub parent : run_of_plan t rs ≡ before ++ met r.site Go ∷ past
  pub own : run_of_plan t (r ∷ rs) ≡ before ++ met r.site (reply_by r.kind) ∷ rest
  pub still : AllGo past
  pub still_own : AllGo rest

-- A hit's place in a run follows from the hit.
pub same_place : (s : Site) (b c : List Met) (m n : Met) (x y : List Met) → b ++ m ∷ x ≡ c ++ n ∷ y → m.site ≡ s → n.site ≡ s → Fresh s b → Fresh s c → (b ≡ c) × (x ≡ y)
same_place s [] [] m n x y e f g u v = (refl, let rest : x ≡ y = cc in rest)
same_place s [] (z ∷ c) m n x y e f g u v = absurd (v.0 (ap (λ (k : Met). k.site) (let h : z ≡ m = cc in h) ∙ f))
same_place s (z ∷ b) [] m n x y e f g u v = absurd (u.0 (ap (λ (k : Met). k.site) (let h : z ≡ n = cc in h) ∙ g))
same_place s (z ∷ b) (w ∷ c) m n x y e f g u v =
    let rest = same_place s b c m n x y (let h : b ++ m ∷ x ≡ c ++ n ∷ y = cc in h) f g u.1 v.1 in
    let first : z ≡ w = cc in
    (ap (λ (k : Met). k ∷ b) first ∙ ap (λ (l : List Met). w ∷ l) rest.0, rest.1)

path_of : (t : Subject) (plan : List Rig) (ms : List Met) → run_of_plan t plan ≡ ms → IsPath t.asks t.limit [] ms
path_of t plan ms e = subst (λ (l : List Met). IsPath t.asks t.limit [] l) e (plan_path t plan)

-- the hits past a plan's last fault end its run, and each goes on
record Ends (t : Subject) (plan : List Rig) : Type 0 where
  begin : List Met
  whole : run_of_plan t plan ≡ begin ++ hits_past plan (run_of_plan t plan)
  still : AllGo (hits_past plan (run_of_plan t plan))

ends : (t : Subject) (plan : List Rig) → KeepsPrefix t plan → Ends t plan
ends t [] k = record { begin = []; whole = refl; still = k }
ends t (q ∷ qs) k =
    let before : List Met = k.0 in
    let rest : List Met = k.2 in
    let hit : Met = met q.site (reply_by q.kind) in
    let own : run_of_plan t (q ∷ qs) ≡ before ++ hit ∷ rest = k.4 in
    let past : hits_after q.site (run_of_plan t (q ∷ qs)) ≡ rest =
    ap (hits_after q.site) own ∙ hits_after_split q.site before hit rest (hit_fresh t.asks t.limit before hit rest (path_of t (q ∷ qs) (before ++ hit ∷ rest) own)) refl in
    record {
      begin = before ++ hit ∷ [];
      whole = own ∙ sym (append_assoc before (hit ∷ []) rest) ∙ ap (λ (l : List Met). (before ++ hit ∷ []) ++ l) (sym past);
      still = subst AllGo (sym past) k.5;
    }

-- the last fault of a child is at a hit past its parent's
abbrev ActsPast : Subject → List Rig → List Rig → Type 0
ActsPast t plan [] = ⊥
ActsPast t plan (r ∷ rs) = (rs ≡ plan) × ((m : Met) × Contains (hits_past plan (run_of_plan t plan)) m × (m.site ≡ r.site))

children_past : (t : Subject) (plan : List Rig) → AllByRecursion (ActsPast t plan) (children t plan)
children_past t plan =
    all_flat (ActsPast t plan) (grown_at t plan) (hits_past plan (run_of_plan t plan))
    (all_by_contains _ (hits_past plan (run_of_plan t plan))
    (λ m c. all_map (ActsPast t plan) (λ kind. rig m.site kind ∷ plan) (t.kinds m.site.point) (all_of _ (λ kind. (refl, (m, c, refl))) (t.kinds m.site.point))))

abbrev ActsPastTail : Subject → List Rig → Type 0
ActsPastTail t [] = ⊥
ActsPastTail t (r ∷ rs) = (m : Met) × Contains (hits_past rs (run_of_plan t rs)) m × (m.site ≡ r.site)

past_tail : (t : Subject) (plan child : List Rig) → ActsPast t plan child → ActsPastTail t child
past_tail t plan [] h = h
past_tail t plan (r ∷ rs) h = subst (λ (p : List Rig). (m : Met) × Contains (hits_past p (run_of_plan t p)) m × (m.site ≡ r.site)) (sym h.0) h.1

level_past : (t : Subject) (n : ℕ) → AllByRecursion (ActsPastTail t) (level t (suc n))
unfolding level
level_past t n =
    all_flat (ActsPastTail t) (children t) (level t n)
    (all_of _ (λ plan. all_weaker (ActsPast t plan) (ActsPastTail t) (λ child h. past_tail t plan child h) (children t plan) (children_past t plan)) (level t n))

pub leaves : (t : Subject) → IsLawful t → (n : ℕ) (r : Rig) (rs : List Rig) → Contains (level t (suc n)) (r ∷ rs) → Leaves t r rs
leaves t l n r rs c =
    let k : KeepsPrefix t (r ∷ rs) = all_contains (KeepsPrefix t) (level t (suc n)) (r ∷ rs) (keeps_prefix t l (suc n)) c in
    let e : Ends t rs = ends t rs (all_contains (KeepsPrefix t) (level t n) rs (keeps_prefix t l n) (tail_in_level t n r rs c)) in
    let at = all_contains (ActsPastTail t) (level t (suc n)) (r ∷ rs) (level_past t n) c in
    let m : Met = at.0 in
    let cut = contains_split (hits_past rs (run_of_plan t rs)) m at.1 in
    let x : List Met = cut.0 in
    let y : List Met = cut.1 in
    let split : run_of_plan t rs ≡ (e.begin ++ x) ++ m ∷ y = e.whole ∙ ap (λ (ms : List Met). e.begin ++ ms) cut.2 ∙ sym (append_assoc e.begin x (m ∷ y)) in
    let before : List Met = k.0 in
    let place = same_place r.site before (e.begin ++ x) (met r.site Go) m k.1 y (sym k.3 ∙ split) refl at.2
    (hit_fresh t.asks t.limit before (met r.site Go) k.1 (path_of t rs (before ++ met r.site Go ∷ k.1) k.3))
    (subst (λ (s : Site). Fresh s (e.begin ++ x)) at.2 (hit_fresh t.asks t.limit (e.begin ++ x) m y (path_of t rs ((e.begin ++ x) ++ m ∷ y) split))) in
    let late : AllGo (x ++ m ∷ y) = subst AllGo cut.2 e.still in
    record {
      before = before;
      past = k.1;
      rest = k.2;
      parent = k.3;
      own = k.4;
      still = subst AllGo (sym place.1) (all_right (λ z. z.reply ≡ Go) x (m ∷ y) late).1;
      still_own = k.5;
    }

-- ---- a plan's run begins like that of each of its tails

acts : (kind : Kind) → is_fault (reply_by kind) ≡ true
acts (OnceReturn text) = refl
acts (OnwardReturn text) = refl
acts OncePanic = refl

no_go : (r : Reply) → is_fault r ≡ true → r ≡ Go → ⊥
no_go r e go = let no : true ≡ false = sym e ∙ ap is_fault go in cc

-- a fault before hits that all go on stands before them
before_go : (b : List Met) (f : Met) (a c d : List Met) → is_fault f.reply ≡ true → AllGo d → b ++ f ∷ a ≡ c ++ d → (past : List Met) × (c ≡ b ++ f ∷ past)
before_go [] f a [] d acts go e = absurd (no_go f.reply acts (subst AllGo (sym e) go).0)
before_go [] f a (z ∷ c) d acts go e = (c, ap (λ (m : Met). m ∷ c) (let h : z ≡ f = cc in h))
before_go (y ∷ b) f a [] d acts go e = absurd (no_go f.reply acts (all_right (λ (m : Met). m.reply ≡ Go) (y ∷ b) (f ∷ a) (subst AllGo (sym e) go)).0)
before_go (y ∷ b) f a (z ∷ c) d acts go e =
    let rest = before_go b f a c d acts go (let h : b ++ f ∷ a ≡ c ++ d = cc in h) in
    (rest.0, ap (λ (m : Met). m ∷ c) (let h : z ≡ y = cc in h) ∙ ap (λ (l : List Met). y ∷ l) rest.1)

-- what a run begins like, another one does that leaves it where only hits that go on follow
pub begins_on : (t : Subject) (plan : List Rig) (ms begin go other : List Met) → BeginsLike t plan ms → ms ≡ begin ++ go → AllGo go → BeginsLike t plan (begin ++ other)
begins_on t [] ms begin go other h e still = tt
begins_on t (r ∷ rs) ms begin go other h e still =
    let hit : Met = met r.site (reply_by r.kind) in
    let cut = before_go h.0 hit h.2 begin go (acts r.kind) still (sym h.4 ∙ e) in
    (h.0, h.1, cut.0 ++ other, h.3, ap (λ (l : List Met). l ++ other) cut.1 ∙ append_assoc h.0 (hit ∷ cut.0) other)

itself : (t : Subject) → IsLawful t → (n : ℕ) (plan : List Rig) → Contains (level t n) plan → BeginsLike t plan (run_of_plan t plan)
itself t l n [] c = tt
itself t l zero (r ∷ rs) c = not_first t r rs c
itself t l (suc n) (r ∷ rs) c = let e = leaves t l n r rs c in (e.before, e.rest, e.rest, e.own, e.own)

pub begins_like_tail : (t : Subject) → IsLawful t → (n : ℕ) (front plan : List Rig) → Contains (level t n) (front ++ plan) → BeginsLike t plan (run_of_plan t (front ++ plan))
begins_like_tail t l n [] plan c = itself t l n plan c
begins_like_tail t l zero (r ∷ front) plan c = not_first t r (front ++ plan) c
begins_like_tail t l (suc n) (r ∷ front) plan c =
    let e = leaves t l n r (front ++ plan) c in
    subst (BeginsLike t plan) (sym e.own)
    (begins_on t plan (run_of_plan t (front ++ plan)) e.before (met r.site Go ∷ e.past) (met r.site (reply_by r.kind) ∷ e.rest)
    (begins_like_tail t l n front plan (tail_in_level t n r (front ++ plan) c)) e.parent (refl, e.still))

-- ---- the run of a plan with a sticky last fault begins like that of the plan with this fault once

pub record IsTurned (t : Subject) (d : ℕ) (plan : List Rig) : Type 0 where
  pub r : Rig
  pub rs : List Rig
  pub text : Option (List ℕ)
  pub kind : r.kind ≡ OnceReturn text
  pub in_level : Contains (level t d) (r ∷ rs)
  pub is : plan ≡ rig r.site (OnwardReturn text) ∷ rs

turned_of : (t : Subject) (d : ℕ) (leaf : List Rig) → Contains (level t d) leaf → AllByRecursion (IsTurned t d) (onward_of t leaf)
turned_of t d [] c = tt
turned_of t d (r ∷ rs) c = by_kind r.kind refl (is_hit_again r.site (run_of_plan t (r ∷ rs)))
  where
    by_kind : (kind : Kind) → r.kind ≡ kind → (b : Bool) → AllByRecursion (IsTurned t d) (cond (is_once_return r.kind && b) ((rig r.site (OnwardReturn (text_of r.kind)) ∷ rs) ∷ []) [])
    by_kind (OnceReturn text) e b = at (is_once_return r.kind && b)
      where
        at : (x : Bool) → AllByRecursion (IsTurned t d) (cond x ((rig r.site (OnwardReturn (text_of r.kind)) ∷ rs) ∷ []) [])
        at true = (record { r = r; rs = rs; text = text; kind = e; in_level = c; is = ap (λ (k : Kind). rig r.site (OnwardReturn (text_of k)) ∷ rs) e }, tt)
        at false = tt
    by_kind (OnwardReturn text) e b = rw e tt
    by_kind OncePanic e b = rw e tt

onward_turned : (t : Subject) (d : ℕ) → AllByRecursion (IsTurned t d) (onward t d)
unfolding onward
onward_turned t d = all_flat (IsTurned t d) (onward_of t) (level t d) (all_by_contains _ (level t d) (turned_of t d))

turned_run : (t : Subject) → IsLawful t → (text : Option (List ℕ)) (s : Site) (rs : List Rig) (m : Met) (b x : List Met) → CanAct (from_then text s ∷ rs) → run_of_plan t (from_then text s ∷ rs) ≡ b ++ m ∷ x → m.site ≡ s → m ≡ met s (Return text)
turned_run t l text s rs m b x can e site =
    let plan : List Rig = from_then text s ∷ rs in
    let answered = subst (AnsweredBy (answers_of plan)) e (plan_answered t l plan can) in
    let here : m.reply ≡ answers_of plan m.site = (all_right (λ (z : Met). z.reply ≡ answers_of plan z.site) b (m ∷ x) answered).0 in
    met_is m s (Return text) site (here ∙ ap (answers_of plan) site ∙ reply_here s.point s.hit (from_then text s) rs (acts_from text s s.point s.hit refl (omega arith)))

turned_begins : (t : Subject) → IsLawful t → (d : ℕ) (plan : List Rig) → Contains (onward t d) plan → (o : IsTurned t d plan) → (tail : List Rig) → BeginsLike t tail (run_of_plan t (o.r ∷ o.rs)) → BeginsLike t tail (run_of_plan t plan)
turned_begins t l zero plan c o tail h = not_first t o.r o.rs o.in_level
turned_begins t l (suc n) plan c o tail h =
    let s : Site = o.r.site in
    let in_grown : Contains (grown t (suc n)) plan = Contains-append_right (levels t (suc n)) (onward t (suc n)) plan c in
    let can : CanAct (from_then o.text s ∷ o.rs) = subst CanAct o.is (all_contains CanAct (grown t (suc n)) plan (grown_can t l (suc n)) in_grown) in
    let alike : RunsAlike t (from_then o.text s ∷ o.rs) = subst (RunsAlike t) o.is (all_contains (RunsAlike t) (grown t (suc n)) plan (grown_runs_alike t l (suc n)) in_grown) in
    let (b, m, other, x, y, own, parent, site, other_site, few) = alike in
    let e = leaves t l n o.r o.rs o.in_level in
    let hit : Met = met s (reply_by o.r.kind) in
    let place = same_place s b e.before other (met s Go) y e.past (sym parent ∙ e.parent) other_site refl
    (subst (λ (z : Site). Fresh z b) other_site (hit_fresh t.asks t.limit b other y (path_of t o.rs (b ++ other ∷ y) parent)))
    (hit_fresh t.asks t.limit e.before (met s Go) e.past (path_of t o.rs (e.before ++ met s Go ∷ e.past) e.parent)) in
    let same : m ≡ hit = turned_run t l o.text s o.rs m b x can own site ∙ ap (λ (k : Kind). met s (reply_by k)) (sym o.kind) in
    let run : run_of_plan t plan ≡ (e.before ++ hit ∷ []) ++ x =
    ap (run_of_plan t) o.is ∙ own ∙ ap (λ (l : List Met). l ++ m ∷ x) place.0 ∙ ap (λ (z : Met). e.before ++ z ∷ x) same ∙ sym (append_assoc e.before (hit ∷ []) x) in
    subst (BeginsLike t tail) (sym run)
    (begins_on t tail (run_of_plan t (o.r ∷ o.rs)) (e.before ++ hit ∷ []) e.rest x h (e.own ∙ sym (append_assoc e.before (hit ∷ []) e.rest)) e.still_own)

-- ---- a plan that isn't reached has a tail whose hits aren't told

pub record Untold (t : Subject) (known : KnownRuns) (n : ℕ) (plan : List Rig) : Type 0 where
  pub front : List Rig
  pub tail : List Rig
  pub at : ℕ
  pub below : at < n
  pub split : plan ≡ front ++ tail
  pub in_level : Contains (level t at) tail
  pub reached : is_reached known tail ≡ true
  pub untold : are_told (hits_of known tail) ≡ false

pub untold_tail : (t : Subject) (known : KnownRuns) (n : ℕ) (plan : List Rig) → Contains (level t n) plan → is_reached known plan ≡ false → Untold t known n plan
untold_tail t known n [] c e = absurd cc
untold_tail t known zero (r ∷ rs) c e = not_first t r rs c
untold_tail t known (suc n) (r ∷ rs) c e =
    by_tests (λ f. untold_tail t known n rs (tail_in_level t n r rs c) f) (are_told (hits_of known rs)) (is_reached known rs) refl refl e
  where
    longer : Untold t known n rs → Untold t known (suc n) (r ∷ rs)
    longer u =
        let below = u.below in
        record {
          front = r ∷ u.front;
          tail = u.tail;
          at = u.at;
          below = omega (arith, below);
          split = ap (λ (l : List Rig). r ∷ l) u.split;
          in_level = u.in_level;
          reached = u.reached;
          untold = u.untold;
        }

    by_tests : (is_reached known rs ≡ false → Untold t known n rs) → (a b : Bool) → are_told (hits_of known rs) ≡ a → is_reached known rs ≡ b
        → (are_told (hits_of known rs) && is_reached known rs) ≡ false → Untold t known (suc n) (r ∷ rs)
    by_tests further a false f g h = longer (further g)
    by_tests further true true f g h = absurd (let no : true ≡ false = sym (ap (λ (x : Bool). x && is_reached known rs) f ∙ g) ∙ h in cc)
    by_tests further false true f g h =
        record { front = r ∷ []; tail = rs; at = n; below = omega arith; split = refl; in_level = tail_in_level t n r rs c; reached = g; untold = f }

-- ---- if nothing is left to be run, that tail is unseen

without_hits : (o : Option Told) → is_none o ≡ false → are_told (hits_told o) ≡ false → is_without_hits o ≡ true
without_hits None e f = absurd cc
without_hits (Some told) e f = by_hits told.hits f
  where
    by_hits : (o : Option (List ℕ)) → are_told o ≡ false → is_none o ≡ true
    by_hits None h = refl
    by_hits (Some hits) h = absurd cc

module _ (t : Subject) (l : IsLawful t) (d : ℕ) (known : KnownRuns) (done : to_run t d known ≡ []) where
  told_each : AllByRecursion (λ plan. is_none (known plan) ≡ false) (known_part t d known)
  told_each = none_left (λ (plan : List Rig). is_none (known plan)) (known_part t d known) done

  reached_in : (n : ℕ) (plan : List Rig) → n ≤ d → Contains (level t n) plan → is_reached known plan ≡ true → Contains (known_levels t d known) plan
  reached_in n plan le c e = contains_filter (is_reached known) (levels t d) plan (level_in_levels t d n plan le c) e

  pub unseen_in : (n : ℕ) (plan : List Rig) → n ≤ d → Contains (level t n) plan → is_reached known plan ≡ true → are_told (hits_of known plan) ≡ false
      → Contains (filter (is_unseen known) (known_levels t d known)) plan
  unseen_in n plan le c e untold =
      let here = reached_in n plan le c e in
      let told : is_none (known plan) ≡ false =
      all_contains (λ (p : List Rig). is_none (known p) ≡ false) (known_part t d known) plan told_each
      (Contains-append_left (known_levels t d known) _ plan here) in
      contains_filter (is_unseen known) (known_levels t d known) plan here (without_hits (known plan) told untold)

  -- a plan of a level is reached, or nobody has seen how a run goes on that begins like its own
  begins_unseen : (n : ℕ) (plan : List Rig) → Contains (level t n) plan → (u : Untold t known n plan) → u.at ≤ d → BeginsUnseen t d known (run_of_plan t plan)
  begins_unseen n plan c u le = (
    u.tail,
    unseen_in u.at u.tail le u.in_level u.reached u.untold,
    subst (λ (p : List Rig). BeginsLike t u.tail (run_of_plan t p)) (sym u.split)
        (begins_like_tail t l n u.front u.tail (subst (Contains (level t n)) u.split c)),
  )

  pub reached_or_unseen : (n : ℕ) (plan : List Rig) → n ≤ d → Contains (level t n) plan → Contains (known_levels t d known) plan ⊎ BeginsUnseen t d known (run_of_plan t plan)
  reached_or_unseen n plan le c = by_test (is_reached known plan) refl
    where
      by_test : (b : Bool) → is_reached known plan ≡ b → Contains (known_levels t d known) plan ⊎ BeginsUnseen t d known (run_of_plan t plan)
      by_test true e = inl (reached_in n plan le c e)
      by_test false e =
          let u = untold_tail t known n plan c e in
          let below = u.below in
          inr (begins_unseen n plan c u (omega (arith, le, below)))

  -- ---- cases

  apart_levels : EachTwo (RunApart t) (known_levels t d known)
  apart_levels = two_filtered (RunApart t) (is_reached known) (levels t d) (levels_run_apart t l d)

  one_in : {P : List Rig → Type 0} (plans : List (List Rig)) (o : IsOfOne P plans) → Contains plans o.one
  one_in plans o = subst (λ (ps : List (List Rig)). Contains ps o.one) (sym o.split) (Contains-append_right o.before (o.one ∷ o.after) o.one (contains_head o.one o.after))

  tried : (c : FaultCase t) (plan : List Rig) → IsTried t c plan → Contains (known_levels t d known) plan ⊎ BeginsUnseen t d known (run_of_plan t plan)
      → IsTriedAsSeen t d known (known_levels t d known) c
  tried c plan is (inl here) = inl (one_of (IsTried t c) (known_levels t d known) plan here is (no_two_tried t c (known_levels t d known) apart_levels))
  tried c plan is (inr begins) = inr (subst (BeginsUnseen t d known) is.0 begins)

  pub nothing_skipped : (c : FaultCase t) → acting (run_in t c) ≤ d → IsTriedAsSeen t d known (known_levels t d known) c
  nothing_skipped c few =
      let o : IsOfOne (IsTried t c) (levels t d) = skips_nothing t l d c few in
      let s = stands_in t d o.one (one_in (levels t d) o) in
      tried c o.one o.is (reached_or_unseen s.n o.one s.le s.in_level)

  pub least : (seed stream code : ℕ) → AllByRecursion (λ plan. verdict_of_plan t seed stream plan ≢ Fail code) (known_levels t d known)
      → (c : FaultCase t) → acting (run_in t c) ≤ d → (verdict_in t c ≢ Fail code) ⊎ BeginsUnseen t d known (run_in t c)
  least seed stream code none c few = elim (nothing_skipped c few) [
    | inl o ↦ inl (λ fails. all_contains (λ (plan : List Rig). verdict_of_plan t seed stream plan ≢ Fail code) (known_levels t d known) o.one none (one_in (known_levels t d known) o) (o.is.1 seed stream ∙ fails))
    | inr begins ↦ inr begins
  ]

  -- ---- whole

  none_in : (n : ℕ) (plan : List Rig) → level_size t known n ≡ 0 → Contains (level t n) plan → is_reached known plan ≡ true → ⊥
  none_in n plan none c e = in_none (filter (is_reached known) (level t n)) none (contains_filter (is_reached known) (level t n) plan c e)
    where
      in_none : (xs : List (List Rig)) → length xs ≡ 0 → Contains xs plan → ⊥
      in_none xs e (k, less, is) = absurd (omega (arith, less, e))

  second : (a b : Bool) → (a && b) ≡ true → b ≡ true
  second true b e = e
  second false b e = absurd cc

  -- if no plan of the next level is known, none of a later one is
  no_longer : level_size t known (d + 1) ≡ 0 → (n : ℕ) (plan : List Rig) → Contains (level t n) plan → is_reached known plan ≡ true → n ≤ d
  no_longer none zero plan c e = omega arith
  no_longer none (suc n) [] c e = absurd (not_empty t n c)
  no_longer none (suc n) (r ∷ rs) c e =
      let before : n ≤ d = no_longer none n rs (tail_in_level t n r rs c) (second (are_told (hits_of known rs)) (is_reached known rs) e) in
      elim (cases_lt n d) [
        | inl less ↦ omega (arith, less)
        | inr more ↦
            let same : suc n ≡ d + 1 = omega (arith, before, more) in
            absurd (none_in (suc n) (r ∷ rs) (ap (level_size t known) same ∙ none) c e)
      ]

  pub whole : level_size t known (d + 1) ≡ 0 → (c : FaultCase t) → IsTriedAsSeen t d known (known_levels t d known) c
  whole none c =
      let many : ℕ = acting (run_in t c) in
      let o : IsOfOne (IsTried t c) (levels t many) = skips_nothing t l many c (omega arith) in
      let s = stands_in t many o.one (one_in (levels t many) o) in
      tried c o.one o.is (by_test o.one s.n s.in_level (is_reached known o.one) refl)
    where
      by_test : (plan : List Rig) (n : ℕ) → Contains (level t n) plan → (b : Bool) → is_reached known plan ≡ b → Contains (known_levels t d known) plan ⊎ BeginsUnseen t d known (run_of_plan t plan)
      by_test plan n at true e = inl (reached_in n plan (no_longer none n plan at e) at e)
      by_test plan n at false e =
          let u = untold_tail t known n plan at e in
          inr (begins_unseen n plan at u (no_longer none u.at u.tail u.in_level u.reached))

  -- ---- sticky faults

  abbrev FoundOr : List Rig → Type 0
  FoundOr plan = Contains (known_part t d known) plan ⊎ BeginsUnseen t d known (run_of_plan t plan)

  as_part : (plan : List Rig) → Contains (known_levels t d known) plan ⊎ BeginsUnseen t d known (run_of_plan t plan) → FoundOr plan
  as_part plan (inl here) = inl (Contains-append_left (known_levels t d known) (filter (is_reached_onward known) (onward t d)) plan here)
  as_part plan (inr begins) = inr begins

  turned_or_unseen : (plan : List Rig) → Contains (onward t d) plan → IsTurned t d plan → FoundOr plan
  turned_or_unseen plan c o = by_tests (are_told (hits_of known leaf)) (is_reached known leaf) refl refl
    where
      leaf : List Rig
      leaf = o.r ∷ o.rs

      once : once_of plan ≡ leaf
      once = ap once_of o.is ∙ ap (λ (k : Kind). rig o.r.site k ∷ o.rs) (sym o.kind)

      begins : (tail : List Rig) → BeginsLike t tail (run_of_plan t leaf) → BeginsLike t tail (run_of_plan t plan)
      begins tail h = turned_begins t l d plan c o tail h

      by_tests : (a b : Bool) → are_told (hits_of known leaf) ≡ a → is_reached known leaf ≡ b → FoundOr plan
      by_tests a false e f =
          let u = untold_tail t known d leaf o.in_level f in
          let below = u.below in
          let h = begins_like_tail t l d u.front u.tail (subst (Contains (level t d)) u.split o.in_level) in
          inr (
            u.tail,
            unseen_in u.at u.tail (omega (arith, below)) u.in_level u.reached u.untold,
            begins u.tail (subst (λ (p : List Rig). BeginsLike t u.tail (run_of_plan t p)) (sym u.split) h),
          )
      by_tests false true e f =
          inr (leaf, unseen_in d leaf (omega arith) o.in_level f e, begins leaf (begins_like_tail t l d [] leaf o.in_level))
      by_tests true true e f =
          let reached : is_reached_onward known plan ≡ true =
          ap (λ (p : List Rig). are_told (hits_of known p) && is_reached known p) once ∙ ap (λ (x : Bool). x && is_reached known leaf) e ∙ f in
          inl (Contains-append_right (known_levels t d known) (filter (is_reached_onward known) (onward t d)) plan (contains_filter (is_reached_onward known) (onward t d) plan c reached))

  grown_or_unseen : AllByRecursion FoundOr (grown t d)
  grown_or_unseen =
      all_append FoundOr (levels t d) (onward t d)
      (all_by_contains FoundOr (levels t d) (λ plan c. let s = stands_in t d plan c in as_part plan (reached_or_unseen s.n plan s.le s.in_level)))
      (all_by_contains FoundOr (onward t d) (λ plan c. turned_or_unseen plan c (all_contains (IsTurned t d) (onward t d) plan (onward_turned t d) c)))

  pub apart : EachTwo (RunApart t) (known_part t d known)
  apart = two_parts (RunApart t) (is_reached known) (is_reached_onward known) (levels t d) (onward t d) (runs_nothing_twice t l d)

  pub from_then_on : (c : FaultCase t) (before after : List Met) (m : Met) (text : Option (List ℕ)) → run_in t c ≡ before ++ m ∷ after → m.reply ≡ Return text → acting before < d
      → ReturnsOnward text m.site.point after → IsTriedAsSeen t d known (known_part t d known) c
  from_then_on c before after m text split returns few later =
      let o : IsOfOne (IsTried t c) (grown t d) = tries_onward t l d c before after m text split returns few later in
      by_found o.one o.is (all_contains FoundOr (grown t d) o.one grown_or_unseen (one_in (grown t d) o))
    where
      by_found : (plan : List Rig) → IsTried t c plan → FoundOr plan → IsTriedAsSeen t d known (known_part t d known) c
      by_found plan is (inl here) = inl (one_of (IsTried t c) (known_part t d known) plan here is (no_two_tried t c (known_part t d known) apart))
      by_found plan is (inr begins) = inr (subst (BeginsUnseen t d known) is.0 begins)

  -- ---- causes

  pub causes : (seed number code : ℕ) (plan : List Rig) → Contains (known_levels t d known) plan → verdict_of_plan t seed number plan ≡ Fail code
      → (cause : List Rig) × AllByRecursion (Contains plan) cause × ((stream : ℕ) → IsCause t seed stream code cause)
      × (Contains (known_levels t d known) cause ⊎ BeginsUnseen t d known (run_of_plan t cause))
  causes seed number code plan c fails =
      let h = has_causes t l d seed number code plan (contains_filtered (is_reached known) (levels t d) plan c) fails in
      let s = stands_in t d h.0 h.1 in
      (h.0, h.2, h.3, reached_or_unseen s.n h.0 s.le s.in_level)

pub ends_as_seen : (t : Subject) → IsLawful t → (d : ℕ) (known : KnownRuns) → EndsAsSeen t d known
ends_as_seen t l d known done = record {
  nothing_skipped = nothing_skipped t l d known done;
  nothing_twice = apart t l d known done;
  onward = from_then_on t l d known done;
  least = least t l d known done;
  whole = whole t l d known done;
  causes = causes t l d known done;
}
