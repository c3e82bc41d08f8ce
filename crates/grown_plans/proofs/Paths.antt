-- Runs as paths: what is asked follows from the answers before, and no hit comes twice.
use Rattle.std.proofs.Common.{◌≡◌, ℕ, zero, suc, ◌+◌, ◌<◌, ◌≤◌, ◌==◌, Bool, true, false, cond, Option, Some, None, List, [], ◌∷◌, ◌++◌, map, length, refl, ap, sym, ◌∙◌, subst, arith, append_assoc, count_by}
use Rattle.std.specs.List.{AllByRecursion}
use Rattle.std.proofs.lemmas.List.{append-nil}
use Rattle.std.proofs.lemmas.Bool.Decides.{nat_tests}
use Rattle.std.proofs.lemmas.List.Sums.{sum_by-append}
use Rattle.action_eval.specs.declared.rig.Site.{Site}
use Rattle.action_eval.specs.Answers.{Reply}
use Rattle.target_trait.specs.Play.{Move, Ask, Done, Unknown}
use Rattle.plan_gen.proofs.Lists.{fold_append}
use Rattle.grown_plans.specs.Runs.{Met, met, site_after}
use Rattle.grown_plans.proofs.Members.{all_weaker, all_append, all_left}

abbrev pub replies_of : List Met → List Reply
replies_of ms = map (λ m. m.reply) ms

abbrev pub times_met : ℕ → List Met → ℕ
times_met p ms = count_by (λ m. m.site.point == p) ms

abbrev pub next_by : List Met → Move → Option Site
next_by before (Ask p) = Some (site_after before p)
next_by before (Done j) = None
next_by before Unknown = None

-- the hit that comes next
unfoldable pub next_of : (List Reply → Move) → List Met → Option Site
next_of asks before = next_by before (asks (replies_of before))

-- after these hits, in a room for so many more, the run goes on like this and ends
abbrev pub IsPath : (List Reply → Move) → ℕ → List Met → List Met → Type 0
IsPath asks zero before [] = Unit {0}
IsPath asks zero before (m ∷ ms) = ⊥
IsPath asks (suc n) before [] = next_of asks before ≡ None
IsPath asks (suc n) before (m ∷ ms) = (next_of asks before ≡ Some m.site) × IsPath asks n (before ++ m ∷ []) ms

next_by_is : (before : List Met) (move : Move) (s : Site) → next_by before move ≡ Some s → (move ≡ Ask s.point) × (s ≡ site_after before s.point)
next_by_is before (Ask p) s e =
    let is : site_after before p ≡ s = cc in
    let P : Site → Type 0 = λ x. (Ask p ≡ Ask x.point) × (x ≡ site_after before x.point) in
    subst P is (refl, refl)
next_by_is before (Done j) s e = absurd cc
next_by_is before Unknown s e = absurd cc

pub next_is : (asks : List Reply → Move) (before : List Met) (s : Site) → next_of asks before ≡ Some s → (asks (replies_of before) ≡ Ask s.point) × (s ≡ site_after before s.point)
unfolding next_of
next_is asks before s e = next_by_is before (asks (replies_of before)) s e

pub some_is : {A : Type 0} (a b : A) → Some a ≡ Some b → a ≡ b
some_is a b e = cc

-- ---- no hit comes twice

-- each hit is one of those of its point
abbrev pub Numbered : List Met → Type 0
Numbered before = AllByRecursion (λ m. m.site.hit ≤ times_met m.site.point before) before

abbrev pub Fresh : Site → List Met → Type 0
Fresh s ms = AllByRecursion (λ m. m.site ≡ s → ⊥) ms

pub times_push : (p : ℕ) (ms : List Met) (m : Met) → times_met p (ms ++ m ∷ []) ≡ times_met p ms + cond (m.site.point == p) 1 0
times_push p ms m = fold_append (λ a (x : Met). a + cond (x.site.point == p) 1 0) 0 ms (m ∷ [])

at_least : (b : Bool) (n : ℕ) → n ≤ n + cond b 1 0
at_least true n = omega arith
at_least false n = omega arith

self_is : (p : ℕ) → (p == p) ≡ true
self_is p = grind (arith, nat_tests)

pub numbered_more : (before : List Met) (m : Met) → m.site ≡ site_after before m.site.point → Numbered before → Numbered (before ++ m ∷ [])
numbered_more before m is n =
    let after : List Met = before ++ m ∷ [] in
    let P : Met → Type 0 = λ x. x.site.hit ≤ times_met x.site.point after in
    let hit : m.site.hit ≡ times_met m.site.point before + 1 = ap (λ (s : Site). s.hit) is in
    let more : times_met m.site.point after ≡ times_met m.site.point before + 1 =
    times_push m.site.point before m ∙ ap (λ b. times_met m.site.point before + cond b 1 0) (self_is m.site.point) in
    all_append P before (m ∷ [])
    (all_weaker (λ x. x.site.hit ≤ times_met x.site.point before) P
    (λ x h. let e = times_push x.site.point before m in let l = at_least (m.site.point == x.site.point) (times_met x.site.point before) in omega (arith, h, e, l)) before n)
    ((let goal : m.site.hit ≤ times_met m.site.point after = omega (arith, hit, more) in goal), tt)

pub next_fresh : (asks : List Reply → Move) (before : List Met) (s : Site) → Numbered before → next_of asks before ≡ Some s → Fresh s before
next_fresh asks before s n e =
    let is = (next_is asks before s e).1 in
    let hit : s.hit ≡ times_met s.point before + 1 = ap (λ (t : Site). t.hit) is in
    all_weaker (λ x. x.site.hit ≤ times_met x.site.point before) (λ x. x.site ≡ s → ⊥)
    (λ x h same. let P : Site → Type 0 = λ t. t.hit ≤ times_met t.point before in let no : s.hit ≤ times_met s.point before = subst P same h in omega (arith, no, hit)) before n

pub path_numbered : (asks : List Reply → Move) (n : ℕ) (before b ms : List Met) → Numbered before → IsPath asks n before (b ++ ms) → Numbered (before ++ b)
path_numbered asks n before [] ms k p = subst Numbered (sym (append-nil before)) k
path_numbered asks zero before (m ∷ b) ms k p = absurd p
path_numbered asks (suc n) before (m ∷ b) ms k p =
    subst Numbered (append_assoc before (m ∷ []) b) (path_numbered asks n (before ++ m ∷ []) b ms (numbered_more before m (next_is asks before m.site p.0).1 k) p.1)

-- hits to come are none of those before
pub path_fresh : (asks : List Reply → Move) (n : ℕ) (before ms : List Met) → Numbered before → IsPath asks n before ms → AllByRecursion (λ x. Fresh x.site before) ms
path_fresh asks n before [] k p = tt
path_fresh asks zero before (m ∷ ms) k p = absurd p
path_fresh asks (suc n) before (m ∷ ms) k p = (
  next_fresh asks before m.site k p.0,
  all_weaker (λ x. Fresh x.site (before ++ m ∷ [])) (λ x. Fresh x.site before) (λ x f. all_left (λ y. y.site ≡ x.site → ⊥) before (m ∷ []) f) ms
      (path_fresh asks n (before ++ m ∷ []) ms (numbered_more before m (next_is asks before m.site p.0).1 k) p.1),
)

-- ---- parts of paths

pub path_part : (asks : List Reply → Move) (n : ℕ) (before b ms : List Met) → IsPath asks n before (b ++ ms) → (k : ℕ) × (IsPath asks k (before ++ b) ms) × (n ≡ length b + k)
path_part asks n before [] ms p = (n, subst (λ l. IsPath asks n l ms) (sym (append-nil before)) p, omega arith)
path_part asks zero before (m ∷ b) ms p = absurd p
path_part asks (suc n) before (m ∷ b) ms p =
    let r = path_part asks n (before ++ m ∷ []) b ms p.1 in
    let e : n ≡ length b + r.0 = r.2 in
    (r.0, subst (λ l. IsPath asks r.0 l ms) (append_assoc before (m ∷ []) b) r.1, omega (arith, e))

-- each hit is answered by this
abbrev pub AnsweredBy : (Site → Reply) → List Met → Type 0
AnsweredBy f ms = AllByRecursion (λ m. m.reply ≡ f m.site) ms

pub met_is : (m : Met) (s : Site) (r : Reply) → m.site ≡ s → m.reply ≡ r → m ≡ met s r
met_is m s r e h = ap (λ (t : Site). met t m.reply) e ∙ ap (λ (a : Reply). met s a) h

same_met : (f : Site → Reply) (x y : Met) (o : Option Site) → o ≡ Some x.site → o ≡ Some y.site → x.reply ≡ f x.site → y.reply ≡ f y.site → x ≡ y
same_met f x y o e d a b =
    let same : x.site ≡ y.site = some_is x.site y.site (sym e ∙ d) in
    met_is x y.site y.reply same (a ∙ ap f same ∙ sym b)

-- the answers decide a run
pub same_path : (asks : List Reply → Move) (f : Site → Reply) (n : ℕ) (before xs ys : List Met) → IsPath asks n before xs → IsPath asks n before ys → AnsweredBy f xs → AnsweredBy f ys → xs ≡ ys
same_path asks f n before [] [] p q a b = refl
same_path asks f zero before [] (y ∷ ys) p q a b = absurd q
same_path asks f zero before (x ∷ xs) ys p q a b = absurd p
same_path asks f (suc n) before [] (y ∷ ys) p q a b = absurd (let e : None ≡ Some y.site = sym p ∙ q.0 in cc)
same_path asks f (suc n) before (x ∷ xs) [] p q a b = absurd (let e : None ≡ Some x.site = sym q ∙ p.0 in cc)
same_path asks f (suc n) before (x ∷ xs) (y ∷ ys) p q a b =
    let same : x ≡ y = same_met f x y (next_of asks before) p.0 q.0 a.0 b.0 in
    ap (λ (m : Met). m ∷ xs) same
    ∙ ap (λ (l : List Met). y ∷ l) (same_path asks f n (before ++ y ∷ []) xs ys (subst (λ (m : Met). IsPath asks n (before ++ m ∷ []) xs) same p.1) q.1 a.1 b.1)

-- a run that is answered by f begins as another one, up to the hit after those of this that are answered by f
pub parted : (asks : List Reply → Move) (f : Site → Reply) (n : ℕ) (before b : List Met) (m : Met) (a ys : List Met) → IsPath asks n before (b ++ m ∷ a) → IsPath asks n before ys
    → AnsweredBy f b → AnsweredBy f ys → (rest : List Met) × (ys ≡ b ++ met m.site (f m.site) ∷ rest)
parted asks f zero before [] m a ys p q h k = absurd p
parted asks f zero before (x ∷ b) m a ys p q h k = absurd p
parted asks f (suc n) before [] m a [] p q h k = absurd (let e : None ≡ Some m.site = sym q ∙ p.0 in cc)
parted asks f (suc n) before [] m a (y ∷ ys) p q h k =
    let same : y.site ≡ m.site = some_is y.site m.site (sym q.0 ∙ p.0) in
    (ys, ap (λ (x : Met). x ∷ ys) (met_is y m.site (f m.site) same (k.0 ∙ ap f same)))
parted asks f (suc n) before (x ∷ b) m a [] p q h k = absurd (let e : None ≡ Some x.site = sym q ∙ p.0 in cc)
parted asks f (suc n) before (x ∷ b) m a (y ∷ ys) p q h k =
    let same : x ≡ y = same_met f x y (next_of asks before) p.0 q.0 h.0 k.0 in
    let further = parted asks f n (before ++ x ∷ []) b m a ys p.1 (subst (λ (w : Met). IsPath asks n (before ++ w ∷ []) ys) (sym same) q.1) h.1 k.1 in
    (further.0, ap (λ (w : Met). w ∷ ys) (sym same) ∙ ap (λ (l : List Met). x ∷ l) further.1)

pub path_head : (asks : List Reply → Move) (n : ℕ) (before : List Met) (m : Met) (ms : List Met) → IsPath asks n before (m ∷ ms) → next_of asks before ≡ Some m.site
path_head asks zero before m ms p = absurd p
path_head asks (suc n) before m ms p = p.0

-- the hit of a run after these is none of them
pub hit_fresh : (asks : List Reply → Move) (n : ℕ) (b : List Met) (m : Met) (ms : List Met) → IsPath asks n [] (b ++ m ∷ ms) → Fresh m.site b
hit_fresh asks n b m ms p =
    let part = path_part asks n [] b (m ∷ ms) p in
    next_fresh asks b m.site (path_numbered asks n [] b (m ∷ ms) tt p) (path_head asks part.0 b m ms part.1)

-- nor are those that come later
pub rest_fresh : (asks : List Reply → Move) (n : ℕ) (b ms : List Met) → IsPath asks n [] (b ++ ms) → AllByRecursion (λ x. Fresh x.site b) ms
rest_fresh asks n b ms p =
    let part = path_part asks n [] b ms p in
    path_fresh asks part.0 b ms (path_numbered asks n [] b ms tt p) part.1

pub times_both : (p : ℕ) (b c : List Met) → times_met p (b ++ c) ≡ times_met p b + times_met p c
times_both p b c = sum_by-append (λ (m : Met). cond (m.site.point == p) 1 0) b c

-- a hit to come is a later one of its point than those before
pub path_later : (asks : List Reply → Move) (n : ℕ) (before ms : List Met) → IsPath asks n before ms → AllByRecursion (λ m. times_met m.site.point before < m.site.hit) ms
path_later asks n before [] p = tt
path_later asks zero before (m ∷ ms) p = absurd p
path_later asks (suc n) before (m ∷ ms) p =
    let hit : m.site.hit ≡ times_met m.site.point before + 1 = ap (λ (s : Site). s.hit) (next_is asks before m.site p.0).1 in (
      (let goal : times_met m.site.point before < m.site.hit = omega (arith, hit) in goal),
      all_weaker (λ (x : Met). times_met x.site.point (before ++ m ∷ []) < x.site.hit) (λ (x : Met). times_met x.site.point before < x.site.hit)
          (λ x h. let both = times_both x.site.point before (m ∷ []) in omega (arith, h, both)) ms (path_later asks n (before ++ m ∷ []) ms p.1),
    )

pub rest_later : (asks : List Reply → Move) (n : ℕ) (b ms : List Met) → IsPath asks n [] (b ++ ms) → AllByRecursion (λ m. times_met m.site.point b < m.site.hit) ms
rest_later asks n b ms p = let part = path_part asks n [] b ms p in path_later asks part.0 b ms part.1

pub hit_is : (asks : List Reply → Move) (n : ℕ) (b : List Met) (m : Met) (ms : List Met) → IsPath asks n [] (b ++ m ∷ ms) → m.site.hit ≡ times_met m.site.point b + 1
hit_is asks n b m ms p =
    let part = path_part asks n [] b (m ∷ ms) p in
    ap (λ (s : Site). s.hit) (next_is asks b m.site (path_head asks part.0 b m ms part.1)).1
