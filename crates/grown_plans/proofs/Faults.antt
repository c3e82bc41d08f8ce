-- The faults that act in a run, the last one first: as a plan they have this run.
use Rattle.std.proofs.Common.{◌≡◌, ℕ, zero, suc, ◌+◌, ◌<◌, ◌≤◌, ◌==◌, ◌&&◌, nat_le, ◌⊎◌, inl, inr, Bool, true, false, cond, Some, List, [], ◌∷◌, ◌++◌, length, refl, ap, sym, ◌∙◌, subst, arith, append_assoc}
use Rattle.std.specs.List.{AllByRecursion, fold}
use Rattle.std.proofs.lemmas.Bool.Decides.{nat_tests}
use Rattle.std.proofs.lemmas.List.{append-nil}
use Rattle.action_eval.specs.declared.rig.Site.{Site}
use Rattle.action_eval.specs.declared.rig.Rig.{Rig}
use Rattle.action_eval.specs.declared.rig.Kind.{Kind}
use Rattle.action_eval.specs.declared.rig.Kind.TheVariants.{OnceReturn, OnwardReturn, OncePanic}
use Rattle.action_eval.specs.Answers.{Reply, Go, Return, Halt}
use Rattle.action_eval.specs.RiggedScenario.{rig}
use Rattle.target_trait.specs.Play.{Move}
use Rattle.plan_gen.specs.RiggedAnswers.{is_onward, acts_at, reply_by}
use Rattle.grown_plans.specs.Runs.{Met, is_fault, acting}
use Rattle.grown_plans.specs.Promises.{EachTwo}
use Rattle.grown_plans.proofs.Members.{all_weaker, all_left, all_right, all_both}
use Rattle.grown_plans.proofs.Paths.{times_met, next_of, next_is, next_fresh, IsPath, Numbered, Fresh, numbered_more, path_fresh, AnsweredBy}
use Rattle.grown_plans.proofs.RiggedScenarios.{ActApart, CanAct, reply_here, reply_there, same_site}
use Rattle.grown_plans.proofs.PlanRuns.{answers_of}

abbrev pub noted : Site → Reply → List Rig → List Rig
noted s Go rigs = rigs
noted s (Return text) rigs = rig s (OnceReturn text) ∷ rigs
noted s Halt rigs = rig s OncePanic ∷ rigs

-- these faults, and those that act at further hits
abbrev pub faults : List Rig → List Met → List Rig
faults rigs [] = rigs
faults rigs (m ∷ ms) = faults (noted m.site m.reply rigs) ms

pub faults_both : (rigs : List Rig) (b ms : List Met) → faults rigs (b ++ ms) ≡ faults (faults rigs b) ms
faults_both rigs [] ms = refl
faults_both rigs (m ∷ b) ms = faults_both (noted m.site m.reply rigs) b ms

abbrev pub AllGo : List Met → Type 0
AllGo ms = AllByRecursion (λ m. m.reply ≡ Go) ms

pub faults_none : (rigs : List Rig) (ms : List Met) → AllGo ms → faults rigs ms ≡ rigs
faults_none rigs [] a = refl
faults_none rigs (m ∷ ms) a = ap (λ (r : Reply). faults (noted m.site r rigs) ms) a.0 ∙ faults_none rigs ms a.1

pub noted_length : (s : Site) (r : Reply) (rigs : List Rig) → length (noted s r rigs) ≡ length rigs + cond (is_fault r) 1 0
noted_length s Go rigs = omega arith
noted_length s (Return text) rigs = omega arith
noted_length s Halt rigs = omega arith

faults_length_from : (n : ℕ) (rigs : List Rig) (ms : List Met) → length rigs ≡ n → length (faults rigs ms) ≡ fold (λ a (m : Met). a + cond (is_fault m.reply) 1 0) n ms
faults_length_from n rigs [] e = e
faults_length_from n rigs (m ∷ ms) e = faults_length_from (n + cond (is_fault m.reply) 1 0) (noted m.site m.reply rigs) ms (noted_length m.site m.reply rigs ∙ ap (λ k. k + cond (is_fault m.reply) 1 0) e)

-- there are as many as there are hits at which a fault acts
pub faults_length : (ms : List Met) → length (faults [] ms) ≡ acting ms
faults_length ms = faults_length_from 0 [] ms refl

-- ---- where one fault acts

pub acts_once : (s : Site) (kind : Kind) (p k : ℕ) → is_onward kind ≡ false → acts_at p k (rig s kind) ≡ ((s.point == p) && (s.hit == k))
acts_once s kind p k once = ap (λ b. (s.point == p) && cond b (nat_le s.hit k) (s.hit == k)) once

pub acts_self : (s : Site) (kind : Kind) → is_onward kind ≡ false → acts_at s.point s.hit (rig s kind) ≡ true
acts_self s kind once =
    let p : (s.point == s.point) ≡ true = grind (arith, nat_tests) in
    let k : (s.hit == s.hit) ≡ true = grind (arith, nat_tests) in
    acts_once s kind s.point s.hit once ∙ ap (λ b. b && (s.hit == s.hit)) p ∙ k

apart_case : (s t : Site) (x y : Bool) → (s.point == t.point) ≡ x → (s.hit == t.hit) ≡ y → (s ≡ t → ⊥) → (x && y) ≡ false
apart_case s t true true e h n = absurd (n (same_site s t (let goal : s.point ≡ t.point = grind (arith, nat_tests, e) in goal) (let goal : s.hit ≡ t.hit = grind (arith, nat_tests, h) in goal)))
apart_case s t true false e h n = refl
apart_case s t false y e h n = refl

both_by : (x y a b : Bool) → x ≡ a → y ≡ b → (x && y) ≡ (a && b)
both_by x y a b e h = ap (λ z. z && y) e ∙ ap (λ z. a && z) h

pub acts_not : (s t : Site) (kind : Kind) → is_onward kind ≡ false → (s ≡ t → ⊥) → acts_at t.point t.hit (rig s kind) ≡ false
acts_not s t kind once n = acts_once s kind t.point t.hit once ∙ apart_case s t (s.point == t.point) (s.hit == t.hit) refl refl n

-- two faults that act once at different sites act nowhere together
once_apart : (r t : Rig) → is_onward r.kind ≡ false → is_onward t.kind ≡ false → (r.site ≡ t.site → ⊥) → ActApart r t
once_apart r t a b n p k e = by_tests (r.site.point == p) (r.site.hit == k) refl refl (sym (acts_once r.site r.kind p k a) ∙ e)
  where
    by_tests : (x y : Bool) → (r.site.point == p) ≡ x → (r.site.hit == k) ≡ y → ((r.site.point == p) && (r.site.hit == k)) ≡ true → acts_at p k t ≡ false
    by_tests true true f h e =
        let point : r.site.point ≡ p = grind (arith, nat_tests, f) in
        let hit : r.site.hit ≡ k = grind (arith, nat_tests, h) in
        ap (λ q. acts_at q k t) (sym point) ∙ ap (λ j. acts_at r.site.point j t) (sym hit) ∙ acts_not t.site r.site t.kind b (λ same. n (sym same))
    by_tests true false f h e = absurd (let no : (true && false) ≡ true = sym (both_by (r.site.point == p) (r.site.hit == k) true false f h) ∙ e in cc)
    by_tests false y f h e = absurd (let no : (false && y) ≡ true = sym (both_by (r.site.point == p) (r.site.hit == k) false y f h) ∙ e in cc)

pub noted_there : (s t : Site) (r : Reply) (rigs : List Rig) → (s ≡ t → ⊥) → answers_of (noted s r rigs) t ≡ answers_of rigs t
noted_there s t Go rigs n = refl
noted_there s t (Return text) rigs n = reply_there t.point t.hit (rig s (OnceReturn text)) rigs (acts_not s t (OnceReturn text) refl n)
noted_there s t Halt rigs n = reply_there t.point t.hit (rig s OncePanic) rigs (acts_not s t OncePanic refl n)

noted_here : (s : Site) (r : Reply) (rigs : List Rig) → answers_of rigs s ≡ Go → answers_of (noted s r rigs) s ≡ r
noted_here s Go rigs e = e
noted_here s (Return text) rigs e = reply_here s.point s.hit (rig s (OnceReturn text)) rigs (acts_self s (OnceReturn text) refl)
noted_here s Halt rigs e = reply_here s.point s.hit (rig s OncePanic) rigs (acts_self s OncePanic refl)

-- ---- the faults of a run answer as the run

faults_there : (rigs : List Rig) (ms : List Met) (s : Site) → Fresh s ms → answers_of (faults rigs ms) s ≡ answers_of rigs s
faults_there rigs [] s f = refl
faults_there rigs (m ∷ ms) s f = faults_there (noted m.site m.reply rigs) ms s f.1 ∙ noted_there m.site s m.reply rigs f.0

pub later_fresh : (asks : List Reply → Move) (n : ℕ) (before : List Met) (m : Met) (ms : List Met) → Numbered (before ++ m ∷ []) → IsPath asks n (before ++ m ∷ []) ms → Fresh m.site ms
later_fresh asks n before m ms k p =
    all_weaker (λ x. Fresh x.site (before ++ m ∷ [])) (λ x. x.site ≡ m.site → ⊥) (λ x f same. (all_right (λ y. y.site ≡ x.site → ⊥) before (m ∷ []) f).0 (sym same)) ms
    (path_fresh asks n (before ++ m ∷ []) ms k p)

faults_answer_from : (asks : List Reply → Move) (n : ℕ) (before : List Met) (rigs : List Rig) (b ms : List Met) → Numbered before → IsPath asks n before (b ++ ms)
    → ((s : Site) → Fresh s before → answers_of rigs s ≡ Go) → AnsweredBy (answers_of (faults rigs b)) b
faults_answer_from asks n before rigs [] ms k p quiet = tt
faults_answer_from asks zero before rigs (m ∷ b) ms k p quiet = absurd p
faults_answer_from asks (suc n) before rigs (m ∷ b) ms k p quiet =
    let more = numbered_more before m (next_is asks before m.site p.0).1 k in
    let fresh = next_fresh asks before m.site k p.0 in (
      sym (faults_there (noted m.site m.reply rigs) b m.site (all_left (λ x. x.site ≡ m.site → ⊥) b ms (later_fresh asks n before m (b ++ ms) more p.1)) ∙ noted_here m.site m.reply rigs (quiet m.site fresh)),
      faults_answer_from asks n (before ++ m ∷ []) (noted m.site m.reply rigs) b ms more p.1
          (λ s f. noted_there m.site s m.reply rigs (all_right (λ y. y.site ≡ s → ⊥) before (m ∷ []) f).0 ∙ quiet s (all_left (λ y. y.site ≡ s → ⊥) before (m ∷ []) f)),
    )

-- the first hits of a run are answered as their faults as a plan answer them
pub faults_answer : (asks : List Reply → Move) (n : ℕ) (b ms : List Met) → IsPath asks n [] (b ++ ms) → AnsweredBy (answers_of (faults [] b)) b
faults_answer asks n b ms p = faults_answer_from asks n [] [] b ms tt p (λ s f. refl)

-- ---- they can act together

-- faults that act once, each at a hit of its own among these
pub record AreAmong (rigs : List Rig) (before : List Met) : Type 0 where
  pub some : AllByRecursion (λ r. 0 < r.site.hit) rigs
  pub sites_apart : EachTwo (λ r t. r.site ≡ t.site → ⊥) rigs
  pub once : AllByRecursion (λ r. is_onward r.kind ≡ false) rigs
  pub met : AllByRecursion (λ r. Fresh r.site before → ⊥) rigs

each_apart : (rigs : List Rig) → AllByRecursion (λ r. is_onward r.kind ≡ false) rigs → EachTwo (λ r t. r.site ≡ t.site → ⊥) rigs → EachTwo ActApart rigs
each_apart [] o a = tt
each_apart (r ∷ rs) o a =
    (all_weaker (λ t. (r.site ≡ t.site → ⊥) × (is_onward t.kind ≡ false)) (ActApart r) (λ t h. once_apart r t o.0 h.1 h.0) rs (all_both _ _ rs a.0 o.1), each_apart rs o.1 a.1)

pub can_act : (rigs : List Rig) (before : List Met) → AreAmong rigs before → CanAct rigs
can_act rigs before a = record { some = a.some; sites_apart = a.sites_apart; act_apart = each_apart rigs a.once a.sites_apart }

pub among_more : (rigs : List Rig) (before : List Met) (m : Met) → AreAmong rigs before → AreAmong rigs (before ++ m ∷ [])
among_more rigs before m a = record {
  some = a.some;
  sites_apart = a.sites_apart;
  once = a.once;
  met = all_weaker (λ r. Fresh r.site before → ⊥) (λ r. Fresh r.site (before ++ m ∷ []) → ⊥) (λ r n f. n (all_left (λ y. y.site ≡ r.site → ⊥) before (m ∷ []) f)) rigs a.met;
}

pub among_new : (rigs : List Rig) (before : List Met) (m : Met) (kind : Kind) → is_onward kind ≡ false → 0 < m.site.hit → Fresh m.site before → AreAmong rigs before → AreAmong (rig m.site kind ∷ rigs) (before ++ m ∷ [])
among_new rigs before m kind once some fresh a =
    let more = among_more rigs before m a in
    record {
      some = (some, a.some);
      sites_apart = (all_weaker (λ r. Fresh r.site before → ⊥) (λ t. m.site ≡ t.site → ⊥) (λ r n same. n (subst (λ s. Fresh s before) same fresh)) rigs a.met, a.sites_apart);
      once = (once, a.once);
      met = ((λ f. (all_right (λ y. y.site ≡ m.site → ⊥) before (m ∷ []) f).0 refl), more.met);
    }

noted_among : (rigs : List Rig) (before : List Met) (m : Met) (r : Reply) → 0 < m.site.hit → Fresh m.site before → AreAmong rigs before → AreAmong (noted m.site r rigs) (before ++ m ∷ [])
noted_among rigs before m Go some fresh a = among_more rigs before m a
noted_among rigs before m (Return text) some fresh a = among_new rigs before m (OnceReturn text) refl some fresh a
noted_among rigs before m Halt some fresh a = among_new rigs before m OncePanic refl some fresh a

pub some_hit : (asks : List Reply → Move) (before : List Met) (s : Site) → next_of asks before ≡ Some s → 0 < s.hit
some_hit asks before s e =
    let hit : s.hit ≡ times_met s.point before + 1 = ap (λ (x : Site). x.hit) (next_is asks before s e).1 in omega (arith, hit)

faults_among_from : (asks : List Reply → Move) (n : ℕ) (before : List Met) (rigs : List Rig) (b ms : List Met) → Numbered before → IsPath asks n before (b ++ ms) → AreAmong rigs before → AreAmong (faults rigs b) (before ++ b)
faults_among_from asks n before rigs [] ms k p a = subst (AreAmong rigs) (sym (append-nil before)) a
faults_among_from asks zero before rigs (m ∷ b) ms k p a = absurd p
faults_among_from asks (suc n) before rigs (m ∷ b) ms k p a =
    subst (AreAmong (faults (noted m.site m.reply rigs) b)) (append_assoc before (m ∷ []) b)
    (faults_among_from asks n (before ++ m ∷ []) (noted m.site m.reply rigs) b ms (numbered_more before m (next_is asks before m.site p.0).1 k) p.1
    (noted_among rigs before m m.reply (some_hit asks before m.site p.0) (next_fresh asks before m.site k p.0) a))

pub none_among : AreAmong [] []
none_among = record { some = tt; sites_apart = tt; once = tt; met = tt }

-- the faults of the first hits of a run are among these hits
pub faults_among : (asks : List Reply → Move) (n : ℕ) (b ms : List Met) → IsPath asks n [] (b ++ ms) → AreAmong (faults [] b) b
faults_among asks n b ms p = faults_among_from asks n [] [] b ms tt p none_among

-- elsewhere they answer Go
pub among_quiet : (rigs : List Rig) (before : List Met) (s : Site) → AreAmong rigs before → Fresh s before → answers_of rigs s ≡ Go
among_quiet rigs before s a f = quiet rigs a.once a.met
  where
    quiet : (rs : List Rig) → AllByRecursion (λ r. is_onward r.kind ≡ false) rs → AllByRecursion (λ r. Fresh r.site before → ⊥) rs → answers_of rs s ≡ Go
    quiet [] o n = refl
    quiet (r ∷ rs) o n =
        reply_there s.point s.hit r rs (acts_not r.site s r.kind o.0 (λ same. n.0 (subst (λ x. Fresh x before) (sym same) f))) ∙ quiet rs o.1 n.1

-- ---- the last fault

pub record EndsIn (rigs : List Rig) (ms : List Met) (r : Rig) (rs : List Rig) : Type 0 where
  pub b : List Met
  pub m : Met
  pub a : List Met
  pub split : ms ≡ b ++ m ∷ a
  pub earlier : faults rigs b ≡ rs
  pub last : noted m.site m.reply rs ≡ r ∷ rs
  pub site : m.site ≡ r.site
  pub still : AllGo a

first_case : (rigs : List Rig) (m : Met) (ms : List Met) (reply : Reply) (r : Rig) (rs : List Rig) → m.reply ≡ reply → AllGo ms → noted m.site reply rigs ≡ r ∷ rs
    → (AllGo (m ∷ ms) × (rigs ≡ r ∷ rs)) ⊎ EndsIn rigs (m ∷ ms) r rs
first_case rigs m ms Go r rs is go e = inl ((is, go), e)
first_case rigs m ms (Return text) r rs is go e =
    let one : rig m.site (OnceReturn text) ≡ r = cc in
    let rest : rigs ≡ rs = cc in
    inr (record { b = []; m = m; a = ms; split = refl; earlier = rest; last = ap (λ (x : Reply). noted m.site x rs) is ∙ ap (λ (x : Rig). x ∷ rs) one; site = ap (λ (x : Rig). x.site) one; still = go })
first_case rigs m ms Halt r rs is go e =
    let one : rig m.site OncePanic ≡ r = cc in
    let rest : rigs ≡ rs = cc in
    inr (record { b = []; m = m; a = ms; split = refl; earlier = rest; last = ap (λ (x : Reply). noted m.site x rs) is ∙ ap (λ (x : Rig). x ∷ rs) one; site = ap (λ (x : Rig). x.site) one; still = go })

pub last_fault : (rigs : List Rig) (ms : List Met) (r : Rig) (rs : List Rig) → faults rigs ms ≡ r ∷ rs → (AllGo ms × (rigs ≡ r ∷ rs)) ⊎ EndsIn rigs ms r rs
last_fault rigs [] r rs e = inl (tt, e)
last_fault rigs (m ∷ ms) r rs e = elim (last_fault (noted m.site m.reply rigs) ms r rs e) [
  | inl h ↦ first_case rigs m ms m.reply r rs refl h.0 h.1
  | inr h ↦ inr (record { b = m ∷ h.b; m = h.m; a = h.a; split = ap (λ (l : List Met). m ∷ l) h.split; earlier = h.earlier; last = h.last; site = h.site; still = h.still })
]

faults_more : (rigs : List Rig) (ms : List Met) → length rigs ≤ length (faults rigs ms)
faults_more rigs [] = omega arith
faults_more rigs (m ∷ ms) =
    let one = noted_length m.site m.reply rigs in
    let rest = faults_more (noted m.site m.reply rigs) ms in
    let some : 0 ≤ cond (is_fault m.reply) 1 0 = omega arith in
    omega (arith, one, rest, some)

reply_none : (m : Met) (r : Reply) (rigs : List Rig) (ms : List Met) → length (faults (noted m.site r rigs) ms) ≤ length rigs → r ≡ Go
reply_none m Go rigs ms h = refl
reply_none m (Return text) rigs ms h = let more = faults_more (rig m.site (OnceReturn text) ∷ rigs) ms in absurd (omega (arith, more, h))
reply_none m Halt rigs ms h = let more = faults_more (rig m.site OncePanic ∷ rigs) ms in absurd (omega (arith, more, h))

-- no more faults than before: each further hit goes on
pub all_go : (rigs : List Rig) (ms : List Met) → length (faults rigs ms) ≤ length rigs → AllGo ms
all_go rigs [] h = tt
all_go rigs (m ∷ ms) h =
    let go : m.reply ≡ Go = reply_none m m.reply rigs ms h in
    (go, all_go rigs ms (subst (λ (r : Reply). length (faults (noted m.site r rigs) ms) ≤ length rigs) go h))

-- further faults stand before those that acted already
pub faults_onto : (rigs : List Rig) (ms : List Met) → (e : List Rig) × (faults rigs ms ≡ e ++ rigs)
faults_onto rigs [] = ([], refl)
faults_onto rigs (m ∷ ms) =
    let rest = faults_onto (noted m.site m.reply rigs) ms in
    let one = noted_onto m.site m.reply rigs in
    (rest.0 ++ one.0, rest.1 ∙ ap (λ l. rest.0 ++ l) one.1 ∙ sym (append_assoc rest.0 one.0 rigs))
  where
    noted_onto : (s : Site) (r : Reply) (rs : List Rig) → (e : List Rig) × (noted s r rs ≡ e ++ rs)
    noted_onto s Go rs = ([], refl)
    noted_onto s (Return text) rs = (rig s (OnceReturn text) ∷ [], refl)
    noted_onto s Halt rs = (rig s OncePanic ∷ [], refl)

pub noted_kind : (s : Site) (kind : Kind) (rigs : List Rig) → is_onward kind ≡ false → noted s (reply_by kind) rigs ≡ rig s kind ∷ rigs
noted_kind s (OnceReturn text) rigs e = refl
noted_kind s (OnwardReturn text) rigs e = absurd cc
noted_kind s OncePanic rigs e = refl
