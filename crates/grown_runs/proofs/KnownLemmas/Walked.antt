-- A walk over known runs comes to the plan whose run rigged hits have.
use Rattle.std.proofs.Common.{◌≡◌, ℕ, zero, suc, ◌+◌, ◌≤◌, ◌==◌, ◌&&◌, Bool, true, false, cond, Option, List, [], ◌∷◌, ◌++◌, map, refl, ap, sym, ◌∙◌, subst, arith, append_assoc}
use Rattle.std.specs.Prelude.{Contains, Option, Some, None, find, option_map}
use Rattle.std.specs.Option.{option_map_or}
use Rattle.std.specs.List.{AllByRecursion}
use Rattle.std.proofs.lemmas.List.Elements.{Contains-append_left, Contains-append_right}
use Rattle.std.proofs.lemmas.Bool.Decides.{nat_tests}
use Rattle.action_eval.specs.declared.rig.Site.{Site}
use Rattle.action_eval.specs.declared.rig.Rig.{Rig}
use Rattle.action_eval.specs.declared.rig.Kind.{Kind}
use Rattle.action_eval.specs.declared.rig.Kind.TheVariants.{OnceReturn, OnwardReturn, OncePanic}
use Rattle.action_eval.specs.Answers.{Reply, Go, Return, given_of}
use Rattle.action_eval.specs.RiggedScenario.{rig, rigged_scenario, is_same_text}
use Rattle.target_trait.specs.Outcomes.{judged}
use Rattle.plan_gen.specs.RiggedAnswers.{AreInOrder, acts_at, reply_by, rigged_reply}
use Rattle.grown_plans.specs.Runs.{Met, met, run}
use Rattle.grown_plans.specs.GrownPlans.{Subject, run_of_plan, hits_after, hits_past, grown_at, children, grown, level, levels, onward, onward_of}
use Rattle.grown_plans.specs.AskedPoints.{GoesOnwardByAsked, onward_by, sites_from, sites_past}
use Rattle.grown_plans.specs.Promises.{IsLawful, KeepsPrefix}
use Rattle.grown_plans.proofs.Members.{all_weaker, all_append, all_both, all_contains, contains_head, contains_tail, contains_map, contains_flat}
use Rattle.grown_plans.proofs.Paths.{IsPath, Fresh, AnsweredBy, replies_of, hit_fresh, same_path}
use Rattle.grown_plans.proofs.PlanRuns.{plan_answered, plan_path, plan_judged, rigs_answered, rigs_judged, rigs_path}
use Rattle.grown_plans.proofs.RiggedScenarios.{CanAct, same_text}
use Rattle.grown_plans.proofs.Onward.{grown_can}
use Rattle.grown_plans.proofs.Levels.{IsGrown, hits_after_split, level_grown}
use Rattle.grown_plans.proofs.Apart.{level_in_levels}
use Rattle.grown_plans.proofs.AskedSites.{goes_onward_by_asked, sites_of}
use Rattle.grown_runs.specs.known.Known.{Agrees, KnownRuns, hits_of}
use Rattle.grown_runs.specs.known.ToldPart.{onward_told}
use Rattle.grown_runs.specs.known.Walks.{acting_by, alike_of, do_alike, doing, first_acting, if_alike, are_alike, is_alike, next_of, next_told, once, onward_walked, walk_on, walk_from}
use Rattle.grown_runs.specs.known.Promises.{IsRunOf, WalksRight}
use Rattle.grown_runs.proofs.KnownLemmas.Sites.{asked_told, hits_true, past_told, sites_told}

abbrev AllGo : List Met → Type 0
AllGo ms = AllByRecursion (λ m. m.reply ≡ Go) ms

-- what rigged hits answer at a site
abbrev answers : List Rig → Site → Reply
answers rigs s = rigged_reply rigs s.point s.hit

-- ---- the first hit at which a rigged hit acts

record Found (rigs : List Rig) (s : Site) (r : Rig) : Type 0 where
  in' : Contains rigs r
  acts : acts_at s.point s.hit r ≡ true

found : (rigs : List Rig) (s : Site) (r : Rig) → find (acts_at s.point s.hit) rigs ≡ Some r → Found rigs s r
found [] s r e = absurd cc
found (x ∷ rigs) s r e = by_test (found rigs s r) (acts_at s.point s.hit x) refl e
  where
    by_test : (find (acts_at s.point s.hit) rigs ≡ Some r → Found rigs s r) → (b : Bool) → acts_at s.point s.hit x ≡ b → cond b (Some x) (find (acts_at s.point s.hit) rigs) ≡ Some r → Found (x ∷ rigs) s r
    by_test later true h k = let same : x ≡ r = cc in subst (λ (y : Rig). Found (x ∷ rigs) s y) same (record { in' = contains_head x rigs; acts = h })
    by_test later false h k = let f = later k in record { in' = contains_tail x r rigs f.in'; acts = f.acts }

once_reply : (k : Kind) → reply_by k ≡ reply_by (once k)
once_reply (OnceReturn text) = refl
once_reply (OnwardReturn text) = refl
once_reply OncePanic = refl

record FirstAt (rigs : List Rig) (ms : List Met) (r : Rig) : Type 0 where
  before : List Met
  here : Met
  after : List Met
  split : ms ≡ before ++ here ∷ after
  site : here.site ≡ r.site
  quiet : AllByRecursion (λ m. answers rigs m.site ≡ Go) before
  acts : answers rigs here.site ≡ reply_by r.kind
  rigged : Rig
  found : Found rigs here.site rigged
  kind : once rigged.kind ≡ r.kind

first_at : (rigs : List Rig) (ms : List Met) (r : Rig) → first_acting rigs (sites_of ms) ≡ Some r → FirstAt rigs ms r
first_at rigs [] r e = absurd cc
first_at rigs (m ∷ ms) r e = by_found (first_at rigs ms r) (find (acts_at m.site.point m.site.hit) rigs) refl e
  where
    by_found : (first_acting rigs (sites_of ms) ≡ Some r → FirstAt rigs ms r) → (o : Option Rig) → find (acts_at m.site.point m.site.hit) rigs ≡ o → acting_by m.site o (first_acting rigs (sites_of ms)) ≡ Some r → FirstAt rigs (m ∷ ms) r
    by_found further None f k =
        let later = further k in
        record {
          before = m ∷ later.before;
          here = later.here;
          after = later.after;
          split = ap (λ (l : List Met). m ∷ l) later.split;
          site = later.site;
          quiet = (ap (λ (o : Option Rig). option_map_or (λ x. reply_by x.kind) o Go) f, later.quiet);
          acts = later.acts;
          rigged = later.rigged;
          found = later.found;
          kind = later.kind;
        }
    by_found further (Some x) f k =
        let same : rig m.site (once x.kind) ≡ r = cc in
        record {
          before = [];
          here = m;
          after = ms;
          split = refl;
          site = ap (λ (y : Rig). y.site) same;
          quiet = tt;
          acts = ap (λ (o : Option Rig). option_map_or (λ y. reply_by y.kind) o Go) f ∙ once_reply x.kind ∙ ap (λ (y : Rig). reply_by y.kind) same;
          rigged = x;
          found = found rigs m.site x f;
          kind = ap (λ (y : Rig). y.kind) same;
        }

none_acts : (rigs : List Rig) (ms : List Met) → first_acting rigs (sites_of ms) ≡ None → AllByRecursion (λ m. answers rigs m.site ≡ Go) ms
none_acts rigs [] e = tt
none_acts rigs (m ∷ ms) e = by_found (none_acts rigs ms) (find (acts_at m.site.point m.site.hit) rigs) refl e
  where
    by_found : (first_acting rigs (sites_of ms) ≡ None → AllByRecursion (λ x. answers rigs x.site ≡ Go) ms) → (o : Option Rig) → find (acts_at m.site.point m.site.hit) rigs ≡ o → acting_by m.site o (first_acting rigs (sites_of ms)) ≡ None → AllByRecursion (λ x. answers rigs x.site ≡ Go) (m ∷ ms)
    by_found later None f k = (ap (λ (o : Option Rig). option_map_or (λ x. reply_by x.kind) o Go) f, later k)
    by_found later (Some x) f k = absurd cc

-- ---- a plan whose run begins as that of rigged hits

record Follows (t : Subject) (rigs plan : List Rig) : Type 0 where
  early : List Met
  late : List Met
  runs : run_of_plan t plan ≡ early ++ late
  past : hits_past plan (run_of_plan t plan) ≡ late
  still : AllGo late
  so : AnsweredBy (answers rigs) early

begins : (t : Subject) (rigs : List Rig) → KeepsPrefix t [] → Follows t rigs []
begins t rigs k = record { early = []; late = run_of_plan t []; runs = refl; past = refl; still = k; so = tt }

-- a hit stands in a run at one place
one_place : (b c : List Met) (m n : Met) (a e : List Met) → Fresh m.site b → Fresh n.site c → m.site ≡ n.site → b ++ m ∷ a ≡ c ++ n ∷ e → b ≡ c
one_place [] [] m n a e f g s h = refl
one_place [] (y ∷ c) m n a e f g s h = absurd (g.0 (let first : m ≡ y = cc in ap (λ (x : Met). x.site) (sym first) ∙ s))
one_place (x ∷ b) [] m n a e f g s h = absurd (f.0 (let first : x ≡ n = cc in ap (λ (y : Met). y.site) first ∙ sym s))
one_place (x ∷ b) (y ∷ c) m n a e f g s h =
    let first : x ≡ y = cc in
    let rest : b ++ m ∷ a ≡ c ++ n ∷ e = cc in
    ap (λ (z : Met). z ∷ b) first ∙ ap (λ (l : List Met). y ∷ l) (one_place b c m n a e f.1 g.1 s rest)

so_far : (rigs : List Rig) (ms : List Met) → AllGo ms → AllByRecursion (λ m. answers rigs m.site ≡ Go) ms → AnsweredBy (answers rigs) ms
so_far rigs ms go quiet = all_weaker (λ (m : Met). (m.reply ≡ Go) × (answers rigs m.site ≡ Go)) (λ (m : Met). m.reply ≡ answers rigs m.site) (λ m h. h.0 ∙ sym h.1) ms (all_both _ _ ms go quiet)

all_front : {A : Type 0} (P : A → Type 0) → (xs ys : List A) → AllByRecursion P (xs ++ ys) → AllByRecursion P xs
all_front P [] ys a = tt
all_front P (x ∷ xs) ys a = (a.0, all_front P xs ys a.1)

goes_on : (t : Subject) (rigs plan : List Rig) (r : Rig) → (f : Follows t rigs plan) → FirstAt rigs f.late r → KeepsPrefix t (r ∷ plan) → Follows t rigs (r ∷ plan)
goes_on t rigs plan r f h k =
    let before : List Met = k.0 in
    let past : List Met = k.1 in
    let rest : List Met = k.2 in
    let parent : run_of_plan t plan ≡ before ++ met r.site Go ∷ past = k.3 in
    let child : run_of_plan t (r ∷ plan) ≡ before ++ met r.site (reply_by r.kind) ∷ rest = k.4 in
    let path : IsPath t.asks t.limit [] (before ++ met r.site Go ∷ past) = subst (λ (l : List Met). IsPath t.asks t.limit [] l) parent (plan_path t plan) in
    let fresh : Fresh r.site before = hit_fresh t.asks t.limit before (met r.site Go) past path in
    let whole : run_of_plan t plan ≡ (f.early ++ h.before) ++ h.here ∷ h.after = f.runs ∙ ap (λ (l : List Met). f.early ++ l) h.split ∙ sym (append_assoc f.early h.before (h.here ∷ h.after)) in
    let path' : IsPath t.asks t.limit [] ((f.early ++ h.before) ++ h.here ∷ h.after) = subst (λ (l : List Met). IsPath t.asks t.limit [] l) whole (plan_path t plan) in
    let fresh' : Fresh h.here.site (f.early ++ h.before) = hit_fresh t.asks t.limit (f.early ++ h.before) h.here h.after path' in
    let same : f.early ++ h.before ≡ before = one_place (f.early ++ h.before) before h.here (met r.site Go) h.after past fresh' fresh h.site (sym whole ∙ parent) in
    let still : AllGo (h.before ++ h.here ∷ h.after) = subst AllGo h.split f.still in
    let quiet : AnsweredBy (answers rigs) h.before = so_far rigs h.before (all_front (λ (m : Met). m.reply ≡ Go) h.before (h.here ∷ h.after) still) h.quiet in
    let front : AnsweredBy (answers rigs) before = subst (AnsweredBy (answers rigs)) same (all_append (λ (m : Met). m.reply ≡ answers rigs m.site) f.early h.before f.so quiet) in
    let here : reply_by r.kind ≡ answers rigs r.site = sym h.acts ∙ ap (answers rigs) h.site in
    record {
      early = before ++ met r.site (reply_by r.kind) ∷ [];
      late = rest;
      runs = child ∙ sym (append_assoc before (met r.site (reply_by r.kind) ∷ []) rest);
      past = ap (hits_after r.site) child ∙ hits_after_split r.site before (met r.site (reply_by r.kind)) rest fresh refl;
      still = k.5;
      so = all_append (λ (m : Met). m.reply ≡ answers rigs m.site) before (met r.site (reply_by r.kind) ∷ []) front (here, tt);
    }

-- ---- the plan that it comes to

abbrev AreTried : Subject → List Rig → Type 0
AreTried t rigs = AllByRecursion (λ r. Contains (t.kinds r.site.point) (once r.kind)) rigs

acts_there : (p : ℕ) (r : Rig) (b : Bool) → ((r.site.point == p) && b) ≡ true → r.site.point ≡ p
acts_there p r b e = by_test (r.site.point == p) refl e
  where
    by_test : (x : Bool) → (r.site.point == p) ≡ x → (x && b) ≡ true → r.site.point ≡ p
    by_test true h k = grind (arith, nat_tests, h)
    by_test false h k = absurd cc

is_tried : (t : Subject) (rigs : List Rig) (ms : List Met) (r : Rig) → AreTried t rigs → (h : FirstAt rigs ms r) → Contains (t.kinds h.here.site.point) r.kind
is_tried t rigs ms r a h =
    let k : Contains (t.kinds h.rigged.site.point) (once h.rigged.kind) = all_contains (λ (x : Rig). Contains (t.kinds x.site.point) (once x.kind)) rigs h.rigged a h.found.in' in
    let at : h.rigged.site.point ≡ h.here.site.point = acts_there h.here.site.point h.rigged _ h.found.acts in
    let k' : Contains (t.kinds h.here.site.point) (once h.rigged.kind) = subst (λ (p : ℕ). Contains (t.kinds p) (once h.rigged.kind)) at k in
    subst (λ (x : Kind). Contains (t.kinds h.here.site.point) x) h.kind k'

at_place : {A : Type 0} (b : List A) (x : A) (a : List A) → Contains (b ++ x ∷ a) x
at_place [] x a = contains_head x a
at_place (y ∷ b) x a = contains_tail y x (b ++ x ∷ a) (at_place b x a)

is_child : (t : Subject) (rigs plan : List Rig) (r : Rig) → AreTried t rigs → (f : Follows t rigs plan) → FirstAt rigs f.late r → Contains (children t plan) (r ∷ plan)
is_child t rigs plan r a f h =
    let there : Contains (hits_past plan (run_of_plan t plan)) h.here = subst (λ (l : List Met). Contains l h.here) (sym (f.past ∙ h.split)) (at_place h.before h.here h.after) in
    let one : Contains (grown_at t plan h.here) (rig h.here.site r.kind ∷ plan) = contains_map (λ kind. rig h.here.site kind ∷ plan) (t.kinds h.here.site.point) r.kind (is_tried t rigs f.late r a h) in
    let all : Contains (children t plan) (rig h.here.site r.kind ∷ plan) = contains_flat (grown_at t plan) (hits_past plan (run_of_plan t plan)) h.here (rig h.here.site r.kind ∷ plan) there one in
    subst (λ (s : Site). Contains (children t plan) (rig s r.kind ∷ plan)) h.site all

in_next : (t : Subject) (n : ℕ) (plan child : List Rig) → Contains (level t n) plan → Contains (children t plan) child → Contains (level t (suc n)) child
unfolding level
in_next t n plan child c k = contains_flat (children t) (level t n) plan child c k

-- a run that rigged hits answer is theirs
run_from : (t : Subject) → IsLawful t → (rigs plan : List Rig) → AreInOrder (map (λ (r : Rig). r.site) rigs) → CanAct plan → AnsweredBy (answers rigs) (run_of_plan t plan) → IsRunOf t rigs plan
run_from t l rigs plan o can all =
    let runs : (seed stream : ℕ) → run t.asks (given_of (rigged_scenario t.names rigs) t.names seed stream t.limit) ≡ run_of_plan t plan =
    λ seed stream. same_path t.asks (answers rigs) t.limit [] (run t.asks (given_of (rigged_scenario t.names rigs) t.names seed stream t.limit)) (run_of_plan t plan)
    (rigs_path t rigs seed stream) (plan_path t plan) (rigs_answered t l rigs o seed stream) all in
    record {
      runs = runs;
      verdicts = λ seed stream. rigs_judged t rigs seed stream ∙ ap (λ (ms : List Met). judged (t.asks (replies_of ms))) (runs seed stream) ∙ sym (plan_judged t l plan can seed stream);
    }

-- the run of a plan that follows rigged hits to its end is theirs
is_run : (t : Subject) → IsLawful t → (n : ℕ) (rigs plan : List Rig) → AreInOrder (map (λ (r : Rig). r.site) rigs) → Contains (level t n) plan → (f : Follows t rigs plan) → first_acting rigs (sites_of f.late) ≡ None → IsRunOf t rigs plan
is_run t l n rigs plan o c f none =
    let late : AnsweredBy (answers rigs) f.late = so_far rigs f.late f.still (none_acts rigs f.late none) in
    let all : AnsweredBy (answers rigs) (run_of_plan t plan) = subst (AnsweredBy (answers rigs)) (sym f.runs) (all_append (λ (m : Met). m.reply ≡ answers rigs m.site) f.early f.late f.so late) in
    let grown : IsGrown t n plan = all_contains (IsGrown t n) (level t n) plan (level_grown t l n) c in
    run_from t l rigs plan o grown.can all

record Came (t : Subject) (d : ℕ) (rigs plan : List Rig) : Type 0 where
  in' : Contains (grown t d) plan
  is : IsRunOf t rigs plan

-- ---- the plan with a sticky last fault

texts_reply : (a b : Option (List ℕ)) → is_same_text a b ≡ true → Return a ≡ Return b
texts_reply a b e = ap (λ (text : Option (List ℕ)). Return text) (same_text a b e)

kinds_reply : (a b : Kind) → are_alike a b ≡ true → reply_by a ≡ reply_by b
kinds_reply (OnceReturn x) (OnceReturn y) e = texts_reply x y e
kinds_reply (OnceReturn x) (OnwardReturn y) e = texts_reply x y e
kinds_reply (OnceReturn x) OncePanic e = absurd cc
kinds_reply (OnwardReturn x) (OnceReturn y) e = texts_reply x y e
kinds_reply (OnwardReturn x) (OnwardReturn y) e = texts_reply x y e
kinds_reply (OnwardReturn x) OncePanic e = absurd cc
kinds_reply OncePanic (OnceReturn y) e = absurd cc
kinds_reply OncePanic (OnwardReturn y) e = absurd cc
kinds_reply OncePanic OncePanic e = refl

abbrev reply_found : Option Rig → Reply
reply_found o = option_map_or (λ x. reply_by x.kind) o Go

found_reply : (o q : Option Rig) → is_alike (option_map (λ r. r.kind) o) (option_map (λ r. r.kind) q) ≡ true → reply_found o ≡ reply_found q
found_reply None None e = refl
found_reply None (Some q) e = absurd cc
found_reply (Some r) None e = absurd cc
found_reply (Some r) (Some q) e = kinds_reply r.kind q.kind e

both_so : (a b : Bool) → (a && b) ≡ true → (a ≡ true) × (b ≡ true)
both_so true b e = (refl, e)
both_so false b e = absurd cc

alike_at : (rigs others : List Rig) (ms : List Met) → do_alike rigs others (sites_of ms) ≡ true → AllByRecursion (λ m. answers rigs m.site ≡ answers others m.site) ms
alike_at rigs others [] e = tt
alike_at rigs others (m ∷ ms) e =
    let parts = both_so (is_alike (doing rigs m.site) (doing others m.site)) (do_alike rigs others (sites_of ms)) e in
    (found_reply (find (acts_at m.site.point m.site.hit) rigs) (find (acts_at m.site.point m.site.hit) others) parts.0, alike_at rigs others ms parts.1)

alike_run : (t : Subject) → IsLawful t → (d : ℕ) (known : KnownRuns) → Agrees t d known → (rigs plan : List Rig) → AreInOrder (map (λ (r : Rig). r.site) rigs) → Contains (grown t d) plan → (hits : List ℕ) → hits_of known plan ≡ Some hits
    → do_alike rigs plan (sites_from [] hits) ≡ true → IsRunOf t rigs plan
alike_run t l d known a rigs plan o c hits e alike =
    let can : CanAct plan = all_contains CanAct (grown t d) plan (grown_can t l d) c in
    let sites : sites_of (run_of_plan t plan) ≡ sites_from [] hits = sites_told t plan hits (hits_true t d known plan hits a c e) in
    let same = alike_at rigs plan (run_of_plan t plan) (ap (do_alike rigs plan) sites ∙ alike) in
    run_from t l rigs plan o can
    (all_weaker (λ (m : Met). (m.reply ≡ answers plan m.site) × (answers rigs m.site ≡ answers plan m.site)) (λ (m : Met). m.reply ≡ answers rigs m.site) (λ m h. h.0 ∙ sym h.1) (run_of_plan t plan)
    (all_both _ _ (run_of_plan t plan) (plan_answered t l plan can) same))

in_onward : (t : Subject) (d : ℕ) (leaf plan : List Rig) → Contains (level t d) leaf → Contains (onward_of t leaf) plan → Contains (onward t d) plan
unfolding onward
in_onward t d leaf plan c k = contains_flat (onward_of t) (level t d) leaf plan c k

onward_came : (t : Subject) → IsLawful t → (d : ℕ) (known : KnownRuns) → Agrees t d known → (rigs : List Rig) → AreInOrder (map (λ (r : Rig). r.site) rigs) → (leaf last : List Rig) → Contains (level t d) leaf
    → onward_walked known rigs leaf ≡ Some last → Came t d rigs last
onward_came t l d known a rigs o leaf last c w = by_hits (hits_of known leaf) refl w
  where
    by_test : (plan : List Rig) → Contains (grown t d) plan → (hits : List ℕ) → hits_of known plan ≡ Some hits → (b : Bool) → do_alike rigs plan (sites_from [] hits) ≡ b → cond b (Some plan) None ≡ Some last → Came t d rigs last
    by_test plan k hits e true alike v =
        let one : plan ≡ last = cc in
        subst (Came t d rigs) one (record { in' = k; is = alike_run t l d known a rigs plan o k hits e alike })
    by_test plan k hits e false alike v = absurd cc

    by_plan : (plan : List Rig) → Contains (grown t d) plan → (x : Option (List ℕ)) → hits_of known plan ≡ x → if_alike rigs plan x ≡ Some last → Came t d rigs last
    by_plan plan k None e v = absurd cc
    by_plan plan k (Some hits) e v = by_test plan k hits e (do_alike rigs plan (sites_from [] hits)) refl v

    by_plans : (plans : List (List Rig)) → onward_of t leaf ≡ plans → alike_of known rigs plans ≡ Some last → Came t d rigs last
    by_plans [] e v = absurd cc
    by_plans (plan ∷ plans) e v =
        let there : Contains (onward_of t leaf) plan = subst (λ (ps : List (List Rig)). Contains ps plan) (sym e) (contains_head plan plans) in
        by_plan plan (Contains-append_right (levels t d) (onward t d) plan (in_onward t d leaf plan c there)) (hits_of known plan) refl v

    grows : (hits : List ℕ) → hits_of known leaf ≡ Some hits → onward_of t leaf ≡ onward_by leaf hits
    grows hits e =
        let in_grown : Contains (grown t d) leaf = Contains-append_left (levels t d) (onward t d) leaf (level_in_levels t d d leaf (omega arith) c) in
        let goes : GoesOnwardByAsked t leaf = all_contains (GoesOnwardByAsked t) (level t d) leaf (goes_onward_by_asked t l d) c in
        goes 0 0 ∙ ap (onward_by leaf) (asked_told t leaf hits (hits_true t d known leaf hits a in_grown e))

    by_hits : (x : Option (List ℕ)) → hits_of known leaf ≡ x → alike_of known rigs (onward_told leaf x) ≡ Some last → Came t d rigs last
    by_hits None e v = absurd cc
    by_hits (Some hits) e v = by_plans (onward_of t leaf) refl (ap (alike_of known rigs) (grows hits e) ∙ v)

-- ---- step by step

-- one step of a walk, from a plan that follows the rigged hits
step : (t : Subject) → IsLawful t → (d : ℕ) (known : KnownRuns) → Agrees t d known → (rigs : List Rig) → AreInOrder (map (λ (r : Rig). r.site) rigs) → AreTried t rigs
    → (n : ℕ) (plan last : List Rig) → n ≤ d → Contains (level t n) plan → Follows t rigs plan → (longer : List Rig → Option (List Rig))
    → ((r : Rig) → Contains (level t (suc n)) (r ∷ plan) → Follows t rigs (r ∷ plan) → longer (r ∷ plan) ≡ Some last → Came t d rigs last)
    → walk_on longer plan (next_told rigs plan (hits_of known plan)) ≡ Some last → Came t d rigs last
step t l d known a rigs o k n plan last le c f longer further w = by_hits (hits_of known plan) refl w
  where
    in_grown : Contains (grown t d) plan
    in_grown = Contains-append_left (levels t d) (onward t d) plan (level_in_levels t d n plan le c)

    by_first : (x : Option Rig) → first_acting rigs (sites_of f.late) ≡ x → walk_on longer plan (next_of x) ≡ Some last → Came t d rigs last
    by_first None h w =
        let one : plan ≡ last = cc in
        subst (Came t d rigs) one (record { in' = in_grown; is = is_run t l n rigs plan o c f h })
    by_first (Some r) h w =
        let first = first_at rigs f.late r h in
        let c' : Contains (level t (suc n)) (r ∷ plan) = in_next t n plan (r ∷ plan) c (is_child t rigs plan r k f first) in
        let grown : IsGrown t (suc n) (r ∷ plan) = all_contains (IsGrown t (suc n)) (level t (suc n)) (r ∷ plan) (level_grown t l (suc n)) c' in
        further r c' (goes_on t rigs plan r f first grown.prefix) w

    late_is : (hits : List ℕ) → hits_of known plan ≡ Some hits → sites_past plan (sites_from [] hits) ≡ sites_of f.late
    late_is hits h = past_told t plan hits (hits_true t d known plan hits a in_grown h) ∙ ap sites_of f.past

    by_hits : (x : Option (List ℕ)) → hits_of known plan ≡ x → walk_on longer plan (next_told rigs plan x) ≡ Some last → Came t d rigs last
    by_hits None h w = absurd cc
    by_hits (Some hits) h w =
        by_first (first_acting rigs (sites_of f.late)) refl (ap (λ (ss : List Site). walk_on longer plan (next_of (first_acting rigs ss))) (sym (late_is hits h)) ∙ w)

walked : (t : Subject) → IsLawful t → (d : ℕ) (known : KnownRuns) → Agrees t d known → (rigs : List Rig) → AreInOrder (map (λ (r : Rig). r.site) rigs) → AreTried t rigs
    → (m n : ℕ) (plan last : List Rig) → m + n ≡ d → Contains (level t n) plan → Follows t rigs plan → walk_from known rigs m plan ≡ Some last → Came t d rigs last
unfolding walk_from
walked t l d known a rigs o k zero n plan last e c f w =
    let whole : n ≡ d = omega (arith, e) in
    let leaf : Contains (level t d) plan = subst (λ (m : ℕ). Contains (level t m) plan) whole c in
    step t l d known a rigs o k n plan last (omega (arith, e)) c f (λ longer. onward_walked known rigs plan) (λ r c' f' w'. onward_came t l d known a rigs o plan last leaf w') w
walked t l d known a rigs o k (suc m) n plan last e c f w =
    step t l d known a rigs o k n plan last (omega (arith, e)) c f (walk_from known rigs m)
    (λ r c' f' w'. walked t l d known a rigs o k m (suc n) (r ∷ plan) last (omega (arith, e)) c' f' w') w

root_in : (t : Subject) → Contains (level t 0) []
unfolding level
root_in t = contains_head [] []

pub walks_right : (t : Subject) → IsLawful t → (d : ℕ) (known : KnownRuns) → Agrees t d known → WalksRight t d known
walks_right t l d known a rigs plan o k w =
    let root : IsGrown t 0 [] = all_contains (IsGrown t 0) (level t 0) [] (level_grown t l 0) (root_in t) in
    let came = walked t l d known a rigs o k d 0 [] plan (omega arith) (root_in t) (begins t rigs root.prefix) w in
    (came.in', came.is)
