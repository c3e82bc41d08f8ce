-- The plans of a level: each has its own faults in its run, and each run of so many faults is that of one of them.
use Rattle.std.proofs.Common.{◌≡◌, ℕ, zero, suc, ◌<◌, ◌==◌, ◌&&◌, ◌⊎◌, inl, inr, Bool, true, false, cond, List, [], ◌∷◌, ◌++◌, length, refl, ap, sym, ◌∙◌, subst, arith, append_assoc}
use Rattle.std.specs.Prelude.{Contains, flat_map}
use Rattle.std.specs.List.{AllByRecursion}
use Rattle.std.proofs.lemmas.List.{append-nil}
use Rattle.std.proofs.lemmas.List.Elements.{Contains-append_right}
use Rattle.std.proofs.lemmas.Bool.Decides.{nat_tests}
use Rattle.action_eval.specs.declared.rig.Site.{Site}
use Rattle.action_eval.specs.declared.rig.Rig.{Rig}
use Rattle.action_eval.specs.declared.rig.Kind.{Kind}
use Rattle.action_eval.specs.Answers.{Reply, Go}
use Rattle.action_eval.specs.RiggedScenario.{rig}
use Rattle.target_trait.specs.Play.{Move}
use Rattle.plan_gen.specs.RiggedAnswers.{is_onward, reply_by}
use Rattle.grown_plans.specs.Runs.{Met, met}
use Rattle.grown_plans.specs.GrownPlans.{Subject, run_of_plan, is_at, hits_after, hits_past, grown_at, children, level}
use Rattle.grown_plans.specs.Promises.{IsLawful, IsOfKinds, KeepsPrefix}
use Rattle.grown_plans.proofs.Members.{all_weaker, all_append, all_left, all_right, all_both, all_map, all_flat, all_by_contains, all_contains, contains_head, contains_map, contains_flat, contains_split}
use Rattle.grown_plans.proofs.Paths.{IsPath, Fresh, AnsweredBy, parted, met_is, path_part, path_head, hit_fresh, rest_fresh}
use Rattle.grown_plans.proofs.RiggedScenarios.{CanAct, reply_here, reply_there, same_site}
use Rattle.grown_plans.proofs.PlanRuns.{answers_of, plan_path, plan_answered}
use Rattle.grown_plans.proofs.Faults.{noted, faults, faults_both, faults_none, AllGo, acts_self, acts_not, faults_answer, AreAmong, can_act, among_more, among_new, some_hit, faults_among, among_quiet, EndsIn, last_fault, all_go, noted_kind}

-- ---- the hits after the last fault

at_case : (s t : Site) (x y : Bool) → (s.point == t.point) ≡ x → (s.hit == t.hit) ≡ y → (s ≡ t → ⊥) → (x && y) ≡ false
at_case s t true true e h n = absurd (n (same_site s t (let goal : s.point ≡ t.point = grind (arith, nat_tests, e) in goal) (let goal : s.hit ≡ t.hit = grind (arith, nat_tests, h) in goal)))
at_case s t true false e h n = refl
at_case s t false y e h n = refl

not_at : (s : Site) (m : Met) → (m.site ≡ s → ⊥) → is_at s m ≡ false
not_at s m n = at_case m.site s (m.site.point == s.point) (m.site.hit == s.hit) refl refl n

at_self : (s : Site) (m : Met) → m.site ≡ s → is_at s m ≡ true
at_self s m e =
    let p : (m.site.point == s.point) ≡ true = let same : m.site.point ≡ s.point = ap (λ (x : Site). x.point) e in grind (arith, nat_tests, same) in
    let k : (m.site.hit == s.hit) ≡ true = let same : m.site.hit ≡ s.hit = ap (λ (x : Site). x.hit) e in grind (arith, nat_tests, same) in
    ap (λ b. b && (m.site.hit == s.hit)) p ∙ k

pub hits_after_split : (s : Site) (b : List Met) (m : Met) (a : List Met) → Fresh s b → m.site ≡ s → hits_after s (b ++ m ∷ a) ≡ a
hits_after_split s [] m a f e = ap (λ t. cond t a (hits_after s a)) (at_self s m e)
hits_after_split s (x ∷ b) m a f e = ap (λ t. cond t (b ++ m ∷ a) (hits_after s (b ++ m ∷ a))) (not_at s x f.0) ∙ hits_after_split s b m a f.1 e

-- The hits of a run past the faults of the plan with which it begins.
pub record Past (plan : List Rig) (b ms : List Met) : Type 0 where
  pub early : List Met
  pub late : List Met
  pub split : b ≡ early ++ late
  pub past : hits_past plan (b ++ ms) ≡ late ++ ms
  pub told : faults [] early ≡ plan
  pub still : AllGo late

pub past_of : (asks : List Reply → Move) (n : ℕ) (plan : List Rig) (b ms : List Met) → IsPath asks n [] (b ++ ms) → faults [] b ≡ plan → Past plan b ms
past_of asks n [] b ms p e =
    record { early = []; late = b; split = refl; past = refl; told = refl; still = all_go [] b (let none : length (faults [] b) ≡ 0 = ap (λ (l : List Rig). length l) e in omega (arith, none)) }
past_of asks n (r ∷ rs) b ms p e = elim (last_fault [] b r rs e) [
  | inl h ↦ absurd (let no : [] ≡ r ∷ rs = h.1 in cc)
  | inr h ↦
      let whole : b ++ ms ≡ h.b ++ h.m ∷ (h.a ++ ms) = ap (λ l. l ++ ms) h.split ∙ append_assoc h.b (h.m ∷ h.a) ms in
      let fresh : Fresh h.m.site h.b = hit_fresh asks n h.b h.m (h.a ++ ms) (subst (λ (l : List Met). IsPath asks n [] l) whole p) in
      record {
        early = h.b ++ h.m ∷ [];
        late = h.a;
        split = h.split ∙ sym (append_assoc h.b (h.m ∷ []) h.a);
        past = ap (hits_after r.site) whole ∙ hits_after_split r.site h.b h.m (h.a ++ ms) (subst (λ s. Fresh s h.b) h.site fresh) h.site;
        told = faults_both [] h.b (h.m ∷ []) ∙ ap (noted h.m.site h.m.reply) h.earlier ∙ h.last;
        still = h.still;
      }
]

-- ---- a plan of n faults

pub record IsGrown (t : Subject) (n : ℕ) (plan : List Rig) : Type 0 where
  pub runs : faults [] (run_of_plan t plan) ≡ plan
  pub can : CanAct plan
  pub once : AllByRecursion (λ r. is_onward r.kind ≡ false) plan
  pub count : length plan ≡ n
  pub kinds : AllByRecursion (λ r. Contains (t.kinds r.site.point) r.kind) plan
  pub prefix : KeepsPrefix t plan

-- the run of a plan whose faults have acted at its first hits goes on from there
pub goes_still : (t : Subject) → IsLawful t → (plan : List Rig) (b rest : List Met) → CanAct plan → AreAmong plan b → run_of_plan t plan ≡ b ++ rest → AllGo rest
goes_still t l plan b rest c a e =
    let path : IsPath t.asks t.limit [] (b ++ rest) = subst (λ (ms : List Met). IsPath t.asks t.limit [] ms) e (plan_path t plan) in
    let answered : AnsweredBy (answers_of plan) (b ++ rest) = subst (AnsweredBy (answers_of plan)) e (plan_answered t l plan c) in
    all_weaker (λ m. (m.reply ≡ answers_of plan m.site) × Fresh m.site b) (λ m. m.reply ≡ Go) (λ m h. h.0 ∙ among_quiet plan b m.site a h.1) rest
    (all_both _ _ rest (all_right (λ m. m.reply ≡ answers_of plan m.site) b rest answered) (rest_fresh t.asks t.limit b rest path))

root_grown : (t : Subject) → IsLawful t → IsGrown t 0 []
root_grown t l =
    let can : CanAct [] = record { some = tt; sites_apart = tt; act_apart = tt } in
    let go : AllGo (run_of_plan t []) = plan_answered t l [] can in
    record { runs = faults_none [] (run_of_plan t []) go; can = can; once = tt; count = refl; kinds = tt; prefix = go }

with_fault : (s : Site) (kind : Kind) (plan : List Rig) (b : List Met) → is_onward kind ≡ false → Fresh s b → AnsweredBy (answers_of plan) b → AnsweredBy (answers_of (rig s kind ∷ plan)) b
with_fault s kind plan b once f a =
    all_weaker (λ (m : Met). (m.reply ≡ answers_of plan m.site) × (m.site ≡ s → ⊥)) (λ (m : Met). m.reply ≡ answers_of (rig s kind ∷ plan) m.site)
    (λ m h. h.0 ∙ sym (reply_there m.site.point m.site.hit (rig s kind) plan (acts_not s m.site kind once (λ same. h.1 (sym same))))) b (all_both _ _ b a f)

-- one more fault, at a hit after the plan's own
grown_more : (t : Subject) → IsLawful t → (n : ℕ) (plan : List Rig) (b : List Met) (m : Met) (y : List Met) (kind : Kind) → IsGrown t n plan → run_of_plan t plan ≡ b ++ m ∷ y → faults [] b ≡ plan → m.reply ≡ Go
    → is_onward kind ≡ false → Contains (t.kinds m.site.point) kind → IsGrown t (suc n) (rig m.site kind ∷ plan)
grown_more t l n plan b m y kind g split told go once of =
    let child : List Rig = rig m.site kind ∷ plan in
    let hit : Met = met m.site (reply_by kind) in
    let path : IsPath t.asks t.limit [] (b ++ m ∷ y) = subst (λ (ms : List Met). IsPath t.asks t.limit [] ms) split (plan_path t plan) in
    let part = path_part t.asks t.limit [] b (m ∷ y) path in
    let fresh : Fresh m.site b = hit_fresh t.asks t.limit b m y path in
    let some : 0 < m.site.hit = some_hit t.asks b m.site (path_head t.asks part.0 b m y part.1) in
    let among : AreAmong plan b = subst (λ (rs : List Rig). AreAmong rs b) told (faults_among t.asks t.limit b (m ∷ y) path) in
    let more : AreAmong child (b ++ hit ∷ []) = among_new plan b hit kind once some fresh among in
    let can : CanAct child = can_act child (b ++ hit ∷ []) more in
    let answered : AnsweredBy (answers_of plan) (b ++ m ∷ y) = subst (AnsweredBy (answers_of plan)) split (plan_answered t l plan g.can) in
    let front : AnsweredBy (answers_of child) b = with_fault m.site kind plan b once fresh (all_left (λ x. x.reply ≡ answers_of plan x.site) b (m ∷ y) answered) in
    let parts = parted t.asks (answers_of child) t.limit [] b m y (run_of_plan t child) path (plan_path t child) front (plan_answered t l child can) in
    let rest : List Met = parts.0 in
    let here : answers_of child m.site ≡ reply_by kind = reply_here m.site.point m.site.hit (rig m.site kind) plan (acts_self m.site kind once) in
    let whole : run_of_plan t child ≡ b ++ hit ∷ rest = parts.1 ∙ ap (λ (r : Reply). b ++ met m.site r ∷ rest) here in
    let still : AllGo rest = goes_still t l child (b ++ hit ∷ []) rest can more (whole ∙ sym (append_assoc b (hit ∷ []) rest)) in
    record {
      runs = ap (faults []) whole ∙ faults_both [] b (hit ∷ rest) ∙ faults_none (noted m.site (reply_by kind) (faults [] b)) rest still
          ∙ ap (noted m.site (reply_by kind)) told ∙ noted_kind m.site kind plan once;
      can = can;
      once = (once, g.once);
      count = ap (λ k. suc k) g.count;
      kinds = (of, g.kinds);
      prefix = (b, y, rest, split ∙ ap (λ (x : Met). b ++ x ∷ y) (met_is m m.site Go refl go), whole, still);
    }

child_grown : (t : Subject) → IsLawful t → (n : ℕ) (plan : List Rig) → IsGrown t n plan → (m : Met) → Contains (hits_past plan (run_of_plan t plan)) m → (kind : Kind) → Contains (t.kinds m.site.point) kind
    → IsGrown t (suc n) (rig m.site kind ∷ plan)
child_grown t l n plan g m c kind of =
    let run : List Met = run_of_plan t plan in
    let path : IsPath t.asks t.limit [] (run ++ []) = subst (λ (ms : List Met). IsPath t.asks t.limit [] ms) (sym (append-nil run)) (plan_path t plan) in
    let past = past_of t.asks t.limit plan run [] path g.runs in
    let late : hits_past plan run ≡ past.late = ap (hits_past plan) (sym (append-nil run)) ∙ past.past ∙ append-nil past.late in
    let cut = contains_split past.late m (subst (λ (ms : List Met). Contains ms m) late c) in
    let x : List Met = cut.0 in
    let y : List Met = cut.1 in
    let still : AllGo (x ++ m ∷ y) = subst AllGo cut.2 past.still in
    let split : run ≡ (past.early ++ x) ++ m ∷ y = past.split ∙ ap (λ (ms : List Met). past.early ++ ms) cut.2 ∙ sym (append_assoc past.early x (m ∷ y)) in
    let told : faults [] (past.early ++ x) ≡ plan =
    faults_both [] past.early x ∙ ap (λ (rs : List Rig). faults rs x) past.told ∙ faults_none plan x (all_left (λ z. z.reply ≡ Go) x (m ∷ y) still)
    in
    grown_more t l n plan (past.early ++ x) m y kind g split told (all_right (λ z. z.reply ≡ Go) x (m ∷ y) still).0 (all_contains (λ k. is_onward k ≡ false) (t.kinds m.site.point) kind (l.once m.site.point) of) of

children_grown : (t : Subject) → IsLawful t → (n : ℕ) (plan : List Rig) → IsGrown t n plan → AllByRecursion (IsGrown t (suc n)) (children t plan)
children_grown t l n plan g =
    all_flat (IsGrown t (suc n)) (grown_at t plan) (hits_past plan (run_of_plan t plan))
    (all_by_contains _ (hits_past plan (run_of_plan t plan))
    (λ m c. all_map (IsGrown t (suc n)) (λ kind. rig m.site kind ∷ plan) (t.kinds m.site.point)
    (all_by_contains _ (t.kinds m.site.point) (λ kind of. child_grown t l n plan g m c kind of))))

pub level_grown : (t : Subject) → IsLawful t → (n : ℕ) → AllByRecursion (IsGrown t n) (level t n)
unfolding level
level_grown t l zero = (root_grown t l, tt)
level_grown t l (suc n) = all_flat (IsGrown t (suc n)) (children t) (level t n) (all_weaker (IsGrown t n) _ (children_grown t l n) (level t n) (level_grown t l n))

-- ---- each run of n faults is that of a plan of level n

go_kinds : (kinds : ℕ → List Kind) (ms : List Met) → AllGo ms → IsOfKinds kinds ms
go_kinds kinds ms a = all_weaker (λ m. m.reply ≡ Go) _ (λ m e. inl e) ms a

-- the faults of the first hits of a run, as a plan, have a run that begins with these, and goes on to the next one
pub record Begins (t : Subject) (b : List Met) (m : Met) : Type 0 where
  pub rest : List Met
  pub whole : run_of_plan t (faults [] b) ≡ b ++ met m.site Go ∷ rest
  pub still : AllGo rest

pub begins : (t : Subject) → IsLawful t → (b : List Met) (m : Met) (a : List Met) → IsPath t.asks t.limit [] (b ++ m ∷ a) → Begins t b m
begins t l b m a path =
    let plan : List Rig = faults [] b in
    let among : AreAmong plan b = faults_among t.asks t.limit b (m ∷ a) path in
    let can : CanAct plan = can_act plan b among in
    let front : AnsweredBy (answers_of plan) b = faults_answer t.asks t.limit b (m ∷ a) path in
    let parts = parted t.asks (answers_of plan) t.limit [] b m a (run_of_plan t plan) path (plan_path t plan) front (plan_answered t l plan can) in
    let quiet : answers_of plan m.site ≡ Go = among_quiet plan b m.site among (hit_fresh t.asks t.limit b m a path) in
    let whole : run_of_plan t plan ≡ b ++ met m.site Go ∷ parts.0 = parts.1 ∙ ap (λ (r : Reply). b ++ met m.site r ∷ parts.0) quiet in
    let more : AreAmong plan (b ++ met m.site Go ∷ []) = among_more plan b (met m.site Go) among in
    record {
      rest = parts.0;
      whole = whole;
      still = goes_still t l plan (b ++ met m.site Go ∷ []) parts.0 can more (whole ∙ sym (append_assoc b (met m.site Go ∷ []) parts.0));
    }

is_kind : (kinds : ℕ → List Kind) (m : Met) (r : Rig) (rs : List Rig) → ((p : ℕ) → AllByRecursion (λ kind. is_onward kind ≡ false) (kinds p)) → noted m.site m.reply rs ≡ r ∷ rs
    → (m.reply ≡ Go) ⊎ ((kind : Kind) × Contains (kinds m.site.point) kind × (m.reply ≡ reply_by kind)) → (kind : Kind) × Contains (kinds m.site.point) kind × (r ≡ rig m.site kind)
is_kind kinds m r rs once e (inl go) = absurd (let same : rs ≡ r ∷ rs = ap (λ (x : Reply). noted m.site x rs) (sym go) ∙ e in let n : length rs ≡ suc (length rs) = ap (λ (l : List Rig). length l) same in omega (arith, n))
is_kind kinds m r rs once e (inr k) =
    let same : rig m.site k.0 ∷ rs ≡ r ∷ rs =
    sym (noted_kind m.site k.0 rs (all_contains (λ kind. is_onward kind ≡ false) (kinds m.site.point) k.0 (once m.site.point) k.1)) ∙ ap (λ (x : Reply). noted m.site x rs) (sym k.2) ∙ e
    in
    (k.0, k.1, (let one : r ≡ rig m.site k.0 = cc in one))

in_level_by : (t : Subject) → IsLawful t → (n : ℕ) → ((ms : List Met) → IsPath t.asks t.limit [] ms → IsOfKinds t.kinds ms → length (faults [] ms) ≡ n → Contains (level t n) (faults [] ms))
    → (ms : List Met) → IsPath t.asks t.limit [] ms → IsOfKinds t.kinds ms → (plan : List Rig) → length plan ≡ suc n → faults [] ms ≡ plan → Contains (flat_map (children t) (level t n)) plan
in_level_by t l n further ms path kinds [] len e = absurd (omega (arith, len))
in_level_by t l n further ms path kinds (r ∷ rs) len e = elim (last_fault [] ms r rs e) [
  | inl h ↦ absurd (let no : [] ≡ r ∷ rs = h.1 in cc)
  | inr h ↦ found h
]
  where
    found : EndsIn [] ms r rs → Contains (flat_map (children t) (level t n)) (r ∷ rs)
    found h =
        let p : IsPath t.asks t.limit [] (h.b ++ h.m ∷ h.a) = subst (λ (x : List Met). IsPath t.asks t.limit [] x) h.split path in
        let ks : IsOfKinds t.kinds (h.b ++ h.m ∷ h.a) = subst (IsOfKinds t.kinds) h.split kinds in
        let st = begins t l h.b h.m h.a p in
        let hit : Met = met h.m.site Go in
        let run : List Met = run_of_plan t (faults [] h.b) in
        let still : AllGo (hit ∷ st.rest) = (refl, st.still) in
        let told : faults [] run ≡ faults [] h.b = ap (faults []) st.whole ∙ faults_both [] h.b (hit ∷ st.rest) ∙ faults_none (faults [] h.b) (hit ∷ st.rest) still in
        let of : IsOfKinds t.kinds run =
        subst (IsOfKinds t.kinds) (sym st.whole) (all_append _ h.b (hit ∷ st.rest) (all_left _ h.b (h.m ∷ h.a) ks) (go_kinds t.kinds (hit ∷ st.rest) still))
        in
        let few : length (faults [] run) ≡ n = ap (λ (x : List Rig). length x) (told ∙ h.earlier) ∙ (let m : length rs ≡ n = omega (arith, len) in m) in
        let parent : Contains (level t n) rs = subst (Contains (level t n)) (told ∙ h.earlier) (further run (plan_path t (faults [] h.b)) of few) in
        let q : IsPath t.asks t.limit [] (h.b ++ hit ∷ st.rest) = subst (λ (x : List Met). IsPath t.asks t.limit [] x) st.whole (plan_path t (faults [] h.b)) in
        let past = past_of t.asks t.limit rs h.b (hit ∷ st.rest) q h.earlier in
        let same : hits_past rs (run_of_plan t rs) ≡ past.late ++ hit ∷ st.rest =
        ap (λ (x : List Rig). hits_past rs (run_of_plan t x)) (sym h.earlier) ∙ ap (hits_past rs) st.whole ∙ past.past
        in
        let there : Contains (hits_past rs (run_of_plan t rs)) hit =
        subst (λ (x : List Met). Contains x hit) (sym same) (Contains-append_right past.late (hit ∷ st.rest) hit (contains_head hit st.rest))
        in
        let kind = is_kind t.kinds h.m r rs l.once h.last (all_right _ h.b (h.m ∷ h.a) ks).0 in
        let child : Contains (children t rs) (rig h.m.site kind.0 ∷ rs) =
        contains_flat (grown_at t rs) (hits_past rs (run_of_plan t rs)) hit (rig h.m.site kind.0 ∷ rs) there (contains_map (λ k. rig h.m.site k ∷ rs) (t.kinds h.m.site.point) kind.0 kind.1)
        in
        contains_flat (children t) (level t n) rs (r ∷ rs) parent (subst (λ (x : Rig). Contains (children t rs) (x ∷ rs)) (sym kind.2) child)

nil_of : (rigs : List Rig) → length rigs ≡ 0 → [] ≡ rigs
nil_of [] e = refl
nil_of (r ∷ rs) e = absurd (omega (arith, e))

pub in_level : (t : Subject) → IsLawful t → (n : ℕ) (ms : List Met) → IsPath t.asks t.limit [] ms → IsOfKinds t.kinds ms → length (faults [] ms) ≡ n → Contains (level t n) (faults [] ms)
unfolding level
in_level t l zero ms path kinds few = subst (Contains ([] ∷ [])) (nil_of (faults [] ms) few) (contains_head [] [])
in_level t l (suc n) ms path kinds few = in_level_by t l n (in_level t l n) ms path kinds (faults [] ms) few refl
