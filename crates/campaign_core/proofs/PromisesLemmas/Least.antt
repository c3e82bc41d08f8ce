-- A cause of a level: without any one of its faults it doesn't fail.
use Rattle.std.proofs.Common.{◌≡◌, ◌≢◌, ℕ, zero, suc, ◌==◌, ◌&&◌, ◌⊎◌, inl, inr, Bool, true, false, cond, Some, List, [], ◌∷◌, ◌++◌, map, refl, ap, sym, ◌∙◌, subst, arith}
use Rattle.std.specs.Prelude.{Contains, find}
use Rattle.std.specs.Option.{option_map_or}
use Rattle.std.specs.List.{AllByRecursion}
use Rattle.std.proofs.lemmas.Bool.Decides.{nat_tests}
use Rattle.action_eval.specs.declared.rig.Site.{Site}
use Rattle.action_eval.specs.declared.rig.Rig.{Rig}
use Rattle.action_eval.specs.declared.rig.Kind.TheVariants.{OnceReturn, OncePanic}
use Rattle.action_eval.specs.Answers.{Reply, Go, Return, Halt, given_of}
use Rattle.action_eval.specs.RiggedScenario.{rig, rigged_scenario}
use Rattle.target_trait.specs.Play.{Move}
use Rattle.target_trait.specs.declared.judgement.Verdict.TheVariants.{Fail}
use Rattle.plan_gen.specs.RiggedAnswers.{IsBefore, AreInOrder, is_onward, acts_at, reply_by, rigged_reply}
use Rattle.grown_plans.specs.Runs.{Met, met, run}
use Rattle.grown_plans.specs.GrownPlans.{Subject, rigs_of, run_of_plan, is_at, is_before, placed, in_order}
use Rattle.grown_plans.specs.Promises.{EachTwo, IsLawful, IsCause, lesser, verdict_of_rigs}
use Rattle.grown_plans.proofs.Members.{all_weaker, all_map, all_contains, all_both, contains_head, contains_tail, contains_cases, contains_map}
use Rattle.grown_plans.proofs.Paths.{IsPath, Fresh, AnsweredBy, Numbered, next_is, numbered_more, same_path}
use Rattle.grown_plans.proofs.RiggedScenarios.{ActApart, reply_here, reply_there, rigs_reply, rigs_order, same_site, merged_once, all_in_order}
use Rattle.grown_plans.proofs.PlanRuns.{answers_of, plan_path, rigs_path, rigs_answered, rigs_judged}
use Rattle.grown_plans.proofs.Faults.{faults as faults_of, acts_once, later_fresh}
use Rattle.grown_plans.proofs.Apart.{IsGrownTo}
use Rattle.campaign_core.specs.promises.Behaviours.{IsBehaviour, AnsweredWithout, answer_by, faults, verdict_at_end}
use Rattle.campaign_core.proofs.PromisesLemmas.AsPaths.{path_of}
use Rattle.campaign_core.proofs.PromisesLemmas.Faults.{rigged_ones}

-- ---- sites

site_is : (s t : Site) → ((s.point == t.point) && (s.hit == t.hit)) ≡ true → s ≡ t
site_is s t e = by_tests (s.point == t.point) (s.hit == t.hit) refl refl e
  where
    by_tests : (x y : Bool) → (s.point == t.point) ≡ x → (s.hit == t.hit) ≡ y → (x && y) ≡ true → s ≡ t
    by_tests true true f h e = same_site s t (let goal : s.point ≡ t.point = grind (arith, nat_tests, f) in goal) (let goal : s.hit ≡ t.hit = grind (arith, nat_tests, h) in goal)
    by_tests true false f h e = absurd cc
    by_tests false y f h e = absurd cc

not_true : (b : Bool) → (b ≡ true → ⊥) → b ≡ false
not_true true n = absurd (n refl)
not_true false n = refl

-- ---- the faults of a run answer as their plan

abbrev answer_or : List Met → Site → Reply → Reply
answer_or those s other = option_map_or (λ (m : Met). m.reply) (find (is_at s) those) other

passed : (s : Site) (m : Met) (rest : List Met) (other : Reply) → is_at s m ≡ false → answer_or (m ∷ rest) s other ≡ answer_or rest s other
passed s m rest other e = ap (λ b. option_map_or (λ (x : Met). x.reply) (cond b (Some m) (find (is_at s) rest)) other) e

found_here : (s : Site) (m : Met) (rest : List Met) (other : Reply) → is_at s m ≡ true → answer_or (m ∷ rest) s other ≡ m.reply
found_here s m rest other e = ap (λ b. option_map_or (λ (x : Met). x.reply) (cond b (Some m) (find (is_at s) rest)) other) e

no_longer : (s : Site) (ms : List Met) (other : Reply) → Fresh s ms → answer_or (faults ms) s other ≡ other
no_longer s [] other f = refl
no_longer s (x ∷ ms) other f = by_reply x.site x.reply (not_true (is_at s x) (λ e. f.0 (site_is x.site s e))) (no_longer s ms other f.1)
  where
    by_reply : (z : Site) (r : Reply) → is_at s (met z r) ≡ false → answer_or (faults ms) s other ≡ other → answer_or (faults (met z r ∷ ms)) s other ≡ other
    by_reply z Go e rest = rest
    by_reply z (Return text) e rest = passed s (met z (Return text)) (faults ms) other e ∙ rest
    by_reply z Halt e rest = passed s (met z Halt) (faults ms) other e ∙ rest

-- hits of which none comes twice
abbrev Apart : List Met → Type 0
Apart [] = Unit {0}
Apart (m ∷ ms) = Fresh m.site ms × Apart ms

path_apart : (asks : List Reply → Move) (n : ℕ) (before ms : List Met) → Numbered before → IsPath asks n before ms → Apart ms
path_apart asks n before [] k p = tt
path_apart asks zero before (m ∷ ms) k p = absurd p
path_apart asks (suc n) before (m ∷ ms) k p =
    let more = numbered_more before m (next_is asks before m.site p.0).1 k in (later_fresh asks n before m ms more p.1, path_apart asks n (before ++ m ∷ []) ms more p.1)

answers_alike : (acc : List Rig) (ms : List Met) (s : Site) → Apart ms → answers_of (faults_of acc ms) s ≡ answer_or (faults ms) s (answers_of acc s)
answers_alike acc [] s a = refl
answers_alike acc (m ∷ ms) s a = by_reply m.site m.reply a.0 (λ more. answers_alike more ms s a.1)
  where
    by_test : (z : Site) (r : Reply) (one : Rig) (b : Bool) → is_at s (met z r) ≡ b → acts_at s.point s.hit one ≡ b → reply_by one.kind ≡ r → Fresh z ms
        → answer_or (faults ms) s (answers_of (one ∷ acc) s) ≡ answer_or (met z r ∷ faults ms) s (answers_of acc s)
    by_test z r one true e h same f =
        no_longer s ms (answers_of (one ∷ acc) s) (subst (λ (x : Site). Fresh x ms) (site_is z s e) f) ∙ reply_here s.point s.hit one acc h ∙ same
        ∙ sym (found_here s (met z r) (faults ms) (answers_of acc s) e)
    by_test z r one false e h same f =
        ap (λ (x : Reply). answer_or (faults ms) s x) (reply_there s.point s.hit one acc h) ∙ sym (passed s (met z r) (faults ms) (answers_of acc s) e)

    by_reply : (z : Site) (r : Reply) → Fresh z ms → ((more : List Rig) → answers_of (faults_of more ms) s ≡ answer_or (faults ms) s (answers_of more s))
        → answers_of (faults_of acc (met z r ∷ ms)) s ≡ answer_or (faults (met z r ∷ ms)) s (answers_of acc s)
    by_reply z Go f rest = rest acc
    by_reply z (Return text) f rest =
        rest (rig z (OnceReturn text) ∷ acc)
        ∙ by_test z (Return text) (rig z (OnceReturn text)) (is_at s (met z (Return text))) refl (acts_once z (OnceReturn text) s.point s.hit refl) refl f
    by_reply z Halt f rest =
        rest (rig z OncePanic ∷ acc) ∙ by_test z Halt (rig z OncePanic) (is_at s (met z Halt)) refl (acts_once z OncePanic s.point s.hit refl) refl f

-- ---- rigged hits without one of them

quiet : (p k : ℕ) (rs : List Rig) → AllByRecursion (λ r. acts_at p k r ≡ false) rs → rigged_reply rs p k ≡ Go
quiet p k [] a = refl
quiet p k (r ∷ rs) a = reply_there p k r rs a.0 ∙ quiet p k rs a.1

-- what is left of rigged hits without one of them
record Left (rs : List Rig) (one : Rig) : Type 0 where
  less : List Rig
  is_lesser : Contains (lesser rs) less
  behind : (s : Site) → AllByRecursion (λ (r : Rig). IsBefore s r.site) rs → AllByRecursion (λ (r : Rig). IsBefore s r.site) less
  order : AreInOrder (map (λ (r : Rig). r.site) less)
  replies : (p k : ℕ) → rigged_reply less p k ≡ cond (acts_at p k one) Go (rigged_reply rs p k)

unmapped : (P : Site → Type 0) (xs : List Rig) → AllByRecursion P (map (λ (r : Rig). r.site) xs) → AllByRecursion (λ x. P x.site) xs
unmapped P [] a = tt
unmapped P (x ∷ xs) a = (a.0, unmapped P xs a.1)

cond_go : (b : Bool) (x y : Reply) → (b ≡ true → x ≡ Go) → (b ≡ false → x ≡ y) → x ≡ cond b Go y
cond_go true x y f h = f refl
cond_go false x y f h = h refl

left_of : (rs : List Rig) → EachTwo (λ r t. ActApart r t × ActApart t r) rs → AreInOrder (map (λ (r : Rig). r.site) rs) → (one : Rig) → Contains rs one → Left rs one
left_of [] a o one c = absurd (omega (arith, c.1))
left_of (r ∷ rs) a o one c = by_place (contains_cases r one rs c) (λ d. left_of rs a.1 o.2 one d)
  where
    head : r ≡ one → (p k : ℕ) → rigged_reply rs p k ≡ cond (acts_at p k one) Go (rigged_reply (r ∷ rs) p k)
    head e p k =
        let same : acts_at p k r ≡ acts_at p k one = ap (acts_at p k) e in
        cond_go (acts_at p k one) (rigged_reply rs p k) (rigged_reply (r ∷ rs) p k)
        (λ yes. quiet p k rs (all_weaker (λ t. ActApart r t × ActApart t r) (λ t. acts_at p k t ≡ false) (λ t h. h.0 p k (same ∙ yes)) rs a.0))
        (λ no. sym (reply_there p k r rs (same ∙ no)))

    tail : (less : List Rig) → Contains rs one → ((p k : ℕ) → rigged_reply less p k ≡ cond (acts_at p k one) Go (rigged_reply rs p k))
        → (p k : ℕ) (b : Bool) → acts_at p k r ≡ b → rigged_reply (r ∷ less) p k ≡ cond (acts_at p k one) Go (rigged_reply (r ∷ rs) p k)
    tail less d h p k true e =
        let apart : acts_at p k one ≡ false = (all_contains (λ t. ActApart r t × ActApart t r) rs one a.0 d).0 p k e in
        reply_here p k r less e ∙ sym (reply_here p k r rs e) ∙ ap (λ b. cond b Go (rigged_reply (r ∷ rs) p k)) (sym apart)
    tail less d h p k false e =
        reply_there p k r less e ∙ h p k ∙ ap (λ (x : Reply). cond (acts_at p k one) Go x) (sym (reply_there p k r rs e))

    by_place : (r ≡ one) ⊎ Contains rs one → (Contains rs one → Left rs one) → Left (r ∷ rs) one
    by_place (inl e) rest =
        record { less = rs; is_lesser = contains_head rs (map (λ less. r ∷ less) (lesser rs)); behind = λ s all. all.1; order = o.2; replies = head e }
    by_place (inr d) rest =
        let k = rest d in
        record {
          less = r ∷ k.less;
          is_lesser = contains_tail rs (r ∷ k.less) (map (λ less. r ∷ less) (lesser rs)) (contains_map (λ less. r ∷ less) (lesser rs) k.less k.is_lesser);
          behind = λ s all. (all.0, k.behind s all.1);
          order = (o.0, all_map (IsBefore r.site) (λ (x : Rig). x.site) k.less (k.behind r.site (unmapped (IsBefore r.site) rs o.1)), k.order);
          replies = λ p n. tail k.less d k.replies p n (acts_at p n r) refl;
        }

-- ---- in order, none acts where another does

differ : (a b : Site) → IsBefore a b → a ≡ b → ⊥
differ a b (inl less) e = let same : a.point ≡ b.point = ap (λ (s : Site). s.point) e in omega (arith, less, same)
differ a b (inr h) e = let same : a.hit ≡ b.hit = ap (λ (s : Site). s.hit) e in let less = h.1 in omega (arith, less, same)

abbrev site_at : ℕ → ℕ → Site
site_at p k = record { point = p; hit = k }

act_apart : (r t : Rig) → is_onward r.kind ≡ false → is_onward t.kind ≡ false → (r.site ≡ t.site → ⊥) → ActApart r t
act_apart r t a b n p k e = not_true (acts_at p k t) (λ h. n (sym (here r a e) ∙ here t b h))
  where
    here : (x : Rig) → is_onward x.kind ≡ false → acts_at p k x ≡ true → site_at p k ≡ x.site
    here x once e = sym (site_is x.site (site_at p k) (sym (acts_once x.site x.kind p k once) ∙ e))

order_apart : (rs : List Rig) → AllByRecursion (λ r. is_onward r.kind ≡ false) rs → AreInOrder (map (λ (r : Rig). r.site) rs) → EachTwo (λ r t. ActApart r t × ActApart t r) rs
order_apart [] o a = tt
order_apart (r ∷ rs) o a = (
  all_weaker (λ t. IsBefore r.site t.site × (is_onward t.kind ≡ false)) (λ t. ActApart r t × ActApart t r)
      (λ t h. (act_apart r t o.0 h.1 (differ r.site t.site h.0), act_apart t r h.1 o.0 (λ e. differ r.site t.site h.0 (sym e)))) rs
      (all_both (λ t. IsBefore r.site t.site) (λ t. is_onward t.kind ≡ false) rs (unmapped (IsBefore r.site) rs a.1) o.1),
  order_apart rs o.1 a.2,
)

-- ---- a cause of a level

in_placed : (one r : Rig) (rs : List Rig) → Contains (r ∷ rs) one → Contains (placed r rs) one
in_placed one r [] c = c
in_placed one r (t ∷ ts) c = by_test (is_before r.site t.site) (in_placed one r ts)
  where
    later : Contains (r ∷ t ∷ ts) one → (Contains (r ∷ ts) one → Contains (placed r ts) one) → Contains (t ∷ placed r ts) one
    later c rest = elim (contains_cases r one (t ∷ ts) c) [
      | inl first ↦ contains_tail t one (placed r ts) (rest (subst (Contains (r ∷ ts)) first (contains_head r ts)))
      | inr d ↦ elim (contains_cases t one ts d) [
        | inl here ↦ subst (Contains (t ∷ placed r ts)) here (contains_head t (placed r ts))
        | inr e ↦ contains_tail t one (placed r ts) (rest (contains_tail r one ts e))
      ]
    ]

    by_test : (b : Bool) → (Contains (r ∷ ts) one → Contains (placed r ts) one) → Contains (cond b (r ∷ t ∷ ts) (t ∷ placed r ts)) one
    by_test true rest = c
    by_test false rest = later c rest

in_ordered : (one : Rig) (rs : List Rig) → Contains rs one → Contains (in_order rs) one
in_ordered one [] c = c
in_ordered one (r ∷ rs) c = in_placed one r (in_order rs) (elim (contains_cases r one rs c) [
  | inl first ↦ subst (Contains (r ∷ in_order rs)) first (contains_head r (in_order rs))
  | inr d ↦ contains_tail r one (in_order rs) (in_ordered one rs d)
])

pub no_lesser : (t : Subject) → IsLawful t → (d seed stream code : ℕ) (plan : List Rig) (found hits : List Met) (left : Met) → IsGrownTo t d plan → run_of_plan t plan ≡ found
    → IsCause t seed stream code plan → Contains (faults found) left → IsBehaviour t hits → AnsweredWithout left (faults found) hits → verdict_at_end t hits ≢ Fail code
no_lesser t l d seed stream code plan found hits left grew runs cause c b answered fails =
    let plan_is : faults_of [] found ≡ plan = ap (faults_of []) (sym runs) ∙ grew.2.runs in
    let rigs : List Rig = rigs_of plan in
    let ordered : rigs ≡ in_order plan = merged_once (in_order plan) (all_in_order (λ r. is_onward r.kind ≡ false) plan grew.2.once) in
    let own = all_contains _ (faults found) left (rigged_ones [] found) c in
    let one : Rig = own.0 in
    let in_plan : Contains plan one = subst (λ (x : List Rig). Contains x one) plan_is own.1 in
    let in_rigs : Contains rigs one = subst (λ (x : List Rig). Contains x one) (sym ordered) (in_ordered one plan in_plan) in
    let once : AllByRecursion (λ r. is_onward r.kind ≡ false) rigs =
    subst (AllByRecursion (λ (r : Rig). is_onward r.kind ≡ false)) (sym ordered) (all_in_order (λ r. is_onward r.kind ≡ false) plan grew.2.once)
    in
    let one_once : is_onward one.kind ≡ false = all_contains (λ r. is_onward r.kind ≡ false) plan one grew.2.once in_plan in
    let order : AreInOrder (map (λ (r : Rig). r.site) rigs) = rigs_order plan grew.2.can in
    let k = left_of rigs (order_apart rigs once order) order one in_rigs in
    let way : IsPath t.asks t.limit [] found = subst (λ (ms : List Met). IsPath t.asks t.limit [] ms) runs (plan_path t plan) in
    let alike : (s : Site) → answers_of plan s ≡ answer_by (faults found) s = λ s.
    ap (λ (x : List Rig). answers_of x s) (sym plan_is) ∙ answers_alike [] found s (path_apart t.asks t.limit [] found tt way)
    in
    let g = given_of (rigged_scenario t.names k.less) t.names seed stream t.limit in
    let site : one.site ≡ left.site = ap (λ (m : Met). m.site) own.2 in
    let so : AnsweredBy (λ s. rigged_reply k.less s.point s.hit) hits = all_weaker _ (λ (m : Met). m.reply ≡ rigged_reply k.less m.site.point m.site.hit)
    (λ m e. e ∙ ap (λ (x : Reply). cond (is_at m.site left) Go x) (sym (rigs_reply m.site.point m.site.hit plan grew.2.can ∙ alike m.site))
    ∙ ap (λ b. cond b Go (rigged_reply rigs m.site.point m.site.hit))
    (ap (λ (s : Site). (s.point == m.site.point) && (s.hit == m.site.hit)) (sym site) ∙ sym (acts_once one.site one.kind m.site.point m.site.hit one_once))
    ∙ sym (k.replies m.site.point m.site.hit)) hits answered
    in
    let same : run t.asks g ≡ hits =
    same_path t.asks (λ s. rigged_reply k.less s.point s.hit) t.limit [] (run t.asks g) hits (rigs_path t k.less seed stream) (path_of t hits b) (rigs_answered t l k.less k.order seed stream) so
    in
    let ends : verdict_of_rigs t seed stream k.less ≡ verdict_at_end t hits = rigs_judged t k.less seed stream ∙ ap (λ (ms : List Met). verdict_at_end t ms) same in
    all_contains (λ less. verdict_of_rigs t seed stream less ≢ Fail code) (lesser rigs) k.less cause.1 k.is_lesser (ends ∙ fails)
