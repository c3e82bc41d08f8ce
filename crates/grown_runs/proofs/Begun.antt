-- The plans with which a list begins.
use Rattle.std.proofs.Common.{◌≡◌, ℕ, zero, suc, ◌+◌, ◌-◌, ◌<◌, ◌≤◌, inl, inr, Bool, true, false, nat_le, cond, List, [], ◌++◌, length, refl, ap, sym, ◌∙◌, subst, arith, append_assoc}
use Rattle.std.proofs.lemmas.List.{append-nil, length-append}
use Rattle.std.proofs.lemmas.Bool.{leb-true, leb-false}
use Rattle.action_eval.specs.declared.rig.Rig.{Rig}
use Rattle.grown_plans.specs.GrownPlans.{Subject, level, levels, levels_to, onward, grown}
use Rattle.grown_runs.specs.declared.input.Purpose.{Purpose}
use Rattle.grown_plans.specs.Lists.{AreLevels}
use Rattle.grown_plans.specs.declared.grown_list.GrownLevels.{GrownLevels}
use Rattle.grown_plans.proofs.Grows.{levels_more}
use Rattle.grown_runs.specs.declared.outcomes.Outcomes.{Outcomes}
use Rattle.grown_runs.specs.Grown.{begun, begun_from}
use Rattle.grown_runs.specs.inside.Levels.{HaveBegun}

-- ---- level by level

either_here : {A : Type 0} (b : Bool) (count many : ℕ) (x y : A) → nat_le count many ≡ b → count ≤ many → cond b x y ≡ x
either_here true count many x y is le = refl
either_here false count many x y is le = let gt = leb-false count many is in absurd (omega (arith, gt, le))

either_past : {A : Type 0} (b : Bool) (count many : ℕ) (x y : A) → nat_le count many ≡ b → many < count → cond b x y ≡ y
either_past true count many x y is lt = let le = leb-true count many is in absurd (omega (arith, le, lt))
either_past false count many x y is lt = refl

-- there are enough
pub begun_here : (t : Subject) (count n k : ℕ) → count ≤ length (levels t n) → begun_from t count n k ≡ levels t n
unfolding begun_from
begun_here t count n zero le = either_here (nat_le count (length (levels t n))) count (length (levels t n)) (levels t n) (grown t n) refl le
begun_here t count n (suc k) le = either_here (nat_le count (length (levels t n))) count (length (levels t n)) (levels t n) (begun_from t count (suc n) k) refl le

past : (t : Subject) (count n k : ℕ) → length (levels t n) < count → begun_from t count n (suc k) ≡ begun_from t count (suc n) k
unfolding begun_from
past t count n k lt = either_past (nat_le count (length (levels t n))) count (length (levels t n)) (levels t n) (begun_from t count (suc n) k) refl lt

-- there are too few, and there is a level more
pub begun_next : (t : Subject) (count n d : ℕ) → length (levels t n) < count → n < d → begun_from t count n (d - n) ≡ begun_from t count (n + 1) (d - (n + 1))
begun_next t count n d lt more =
    ap (begun_from t count n) (let e : d - n ≡ suc (d - (n + 1)) = omega (arith, more) in e) ∙ past t count n (d - (n + 1)) lt
    ∙ ap (λ m. begun_from t count m (d - (n + 1))) (let e : suc n ≡ n + 1 = omega arith in e)

-- there is none
whole : (t : Subject) (count n : ℕ) → length (levels t n) < count → begun_from t count n zero ≡ grown t n
unfolding begun_from
whole t count n lt = either_past (nat_le count (length (levels t n))) count (length (levels t n)) (levels t n) (grown t n) refl lt

pub begun_whole : (t : Subject) (count n d : ℕ) → length (levels t n) < count → n ≡ d → begun_from t count n (d - n) ≡ grown t d
begun_whole t count n d lt is = ap (begun_from t count n) (let e : d - n ≡ 0 = omega (arith, is) in e) ∙ whole t count n lt ∙ ap (grown t) is

-- ---- how many there are

grown_more : (t : Subject) (n : ℕ) → length (levels t n) ≤ length (grown t n)
grown_more t n = let parts = length-append (levels t n) (onward t n) in omega (arith, parts)

next_more : (t : Subject) (n : ℕ) → length (levels t n) ≤ length (levels t (suc n))
next_more t n =
    let more = levels_more (level t) n 1 in
    let same : length (levels t (n + 1)) ≡ length (levels t (suc n)) = ap (λ m. length (levels t m)) (let e : n + 1 ≡ suc n = omega arith in e) in
    omega (arith, more, same)

least_last : (t : Subject) (n : ℕ) (b : Bool) → length (levels t n) ≤ length (cond b (levels t n) (grown t n))
least_last t n true = omega arith
least_last t n false = grown_more t n

least_next : (t : Subject) (n : ℕ) (b : Bool) (next : List (List Rig)) → length (levels t (suc n)) ≤ length next → length (levels t n) ≤ length (cond b (levels t n) next)
least_next t n true next le = omega arith
least_next t n false next le = let more = next_more t n in omega (arith, more, le)

pub begun_least : (t : Subject) (count n k : ℕ) → length (levels t n) ≤ length (begun_from t count n k)
unfolding begun_from
begun_least t count n zero = least_last t n (nat_le count (length (levels t n)))
begun_least t count n (suc k) = least_next t n (nat_le count (length (levels t n))) (begun_from t count (suc n) k) (begun_least t count (suc n) k)

pub begun_some : (t : Subject) (d count : ℕ) → 1 ≤ length (begun t d count)
unfolding levels_to level
begun_some t d count = let least = begun_least t count 0 d in omega (arith, least)

-- ---- they stand first

-- a list begins with another
abbrev pub Begins : List (List Rig) → List (List Rig) → Type 0
Begins front all = (rest : List (List Rig)) × (all ≡ front ++ rest)

levels_front : (t : Subject) (n k : ℕ) → Begins (levels t n) (levels t (n + k))
unfolding levels_to
levels_front t n zero = ([], ap (levels t) (let e : n + 0 ≡ n = omega arith in e) ∙ sym (append-nil (levels t n)))
levels_front t n (suc k) =
    let front = levels_front t n k in (
      front.0 ++ level t (suc (n + k)),
      ap (levels t) (let e : n + suc k ≡ suc (n + k) = omega arith in e) ∙ ap (λ ps. ps ++ level t (suc (n + k))) front.1
          ∙ append_assoc (levels t n) front.0 (level t (suc (n + k))),
    )

grown_front : (t : Subject) (n k : ℕ) → Begins (levels t n) (grown t (n + k))
grown_front t n k =
    let front = levels_front t n k in
    (front.0 ++ onward t (n + k), ap (λ ps. ps ++ onward t (n + k)) front.1 ∙ append_assoc (levels t n) front.0 (onward t (n + k)))

front_last : (t : Subject) (n : ℕ) (b : Bool) → Begins (cond b (levels t n) (grown t n)) (grown t n)
front_last t n true = (onward t n, refl)
front_last t n false = ([], sym (append-nil (grown t n)))

front_next : (t : Subject) (n k : ℕ) (b : Bool) (next : List (List Rig)) → Begins next (grown t (suc n + k)) → Begins (cond b (levels t n) next) (grown t (n + suc k))
front_next t n k true next front = grown_front t n (suc k)
front_next t n k false next front = (front.0, ap (grown t) (let e : n + suc k ≡ suc n + k = omega arith in e) ∙ front.1)

front_from : (t : Subject) (count n k : ℕ) → Begins (begun_from t count n k) (grown t (n + k))
unfolding begun_from
front_from t count n zero =
    let last = front_last t n (nat_le count (length (levels t n))) in
    (last.0, ap (grown t) (let e : n + 0 ≡ n = omega arith in e) ∙ last.1)
front_from t count n (suc k) = front_next t n k (nat_le count (length (levels t n))) (begun_from t count (suc n) k) (front_from t count (suc n) k)

pub begun_front : (t : Subject) (d count : ℕ) → Begins (begun t d count) (grown t d)
begun_front t d count =
    let front = front_from t count 0 d in
    (front.0, ap (grown t) (let e : d ≡ 0 + d = omega arith in e) ∙ front.1)

pub begun_most : (t : Subject) (d count : ℕ) → length (begun t d count) ≤ length (grown t d)
begun_most t d count =
    let front = begun_front t d count in
    let long = ap length front.1 ∙ length-append (begun t d count) front.0 in
    omega (arith, long)

-- If there are fewer than were asked for, they are all.
all_last : (t : Subject) (count n : ℕ) (b : Bool) → nat_le count (length (levels t n)) ≡ b → length (cond b (levels t n) (grown t n)) < count
    → cond b (levels t n) (grown t n) ≡ grown t n
all_last t count n true is lt = let le = leb-true count (length (levels t n)) is in absurd (omega (arith, le, lt))
all_last t count n false is lt = refl

all_next : (t : Subject) (count n k : ℕ) (b : Bool) (next : List (List Rig)) → nat_le count (length (levels t n)) ≡ b → (length next < count → next ≡ grown t (suc n + k))
    → length (cond b (levels t n) next) < count → cond b (levels t n) next ≡ grown t (n + suc k)
all_next t count n k true next is rest lt = let le = leb-true count (length (levels t n)) is in absurd (omega (arith, le, lt))
all_next t count n k false next is rest lt = rest lt ∙ ap (grown t) (let e : suc n + k ≡ n + suc k = omega arith in e)

all_from : (t : Subject) (count n k : ℕ) → length (begun_from t count n k) < count → begun_from t count n k ≡ grown t (n + k)
unfolding begun_from
all_from t count n zero lt = all_last t count n (nat_le count (length (levels t n))) refl lt ∙ ap (grown t) (let e : n ≡ n + 0 = omega arith in e)
all_from t count n (suc k) lt = all_next t count n k (nat_le count (length (levels t n))) (begun_from t count (suc n) k) refl (all_from t count (suc n) k) lt

pub begun_all : (t : Subject) (d count : ℕ) → length (begun t d count) < count → begun t d count ≡ grown t d
begun_all t d count lt = all_from t count 0 d lt ∙ ap (grown t) (let e : 0 + d ≡ d = omega arith in e)

-- ---- levels that have grown

pub whole_levels : (t : Subject) (seed : ℕ) (purpose : Purpose) (depth count : ℕ) (l : GrownLevels) (o : Outcomes) (b : HaveBegun t seed purpose depth count l o) → length l.plans < count → b.top ≡ depth
whole_levels t seed purpose depth count l o b lt = elim b.enough [ inl is ↦ is | inr many ↦ absurd (omega (arith, lt, many)) ]

pub whole_are : (t : Subject) (seed : ℕ) (purpose : Purpose) (depth count : ℕ) (l : GrownLevels) (o : Outcomes) → HaveBegun t seed purpose depth count l o → length l.plans < count → AreLevels (level t) depth l
whole_are t seed purpose depth count l o b lt = subst (λ (n : ℕ). AreLevels (level t) n l) (whole_levels t seed purpose depth count l o b lt) b.are

-- those that are enough
pub levels_begin : (t : Subject) (seed : ℕ) (purpose : Purpose) (depth count : ℕ) (l : GrownLevels) (o : Outcomes) → HaveBegun t seed purpose depth count l o → count ≤ length l.plans → l.plans ≡ begun t depth count
levels_begin t seed purpose depth count l o b many =
    let here = ap length b.are.are in
    b.are.are ∙ sym (begun_here t count b.top (depth - b.top) (omega (arith, many, here))) ∙ sym b.so_far

-- and those that aren't
pub levels_whole : (t : Subject) (seed : ℕ) (purpose : Purpose) (depth count : ℕ) (l : GrownLevels) (o : Outcomes) → HaveBegun t seed purpose depth count l o → length l.plans < count → grown t depth ≡ begun t depth count
levels_whole t seed purpose depth count l o b few =
    let here = ap length b.are.are in
    sym (begun_whole t count b.top depth (omega (arith, few, here)) (whole_levels t seed purpose depth count l o b few)) ∙ sym b.so_far
