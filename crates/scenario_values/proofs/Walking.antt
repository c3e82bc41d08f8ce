-- Walks over the numbers of faults, along an ascending set.
use Rattle.std.proofs.Common.{◌≡◌, ℕ, zero, suc, ◌+◌, ◌<◌, ◌≤◌, List, [], ◌∷◌, Bool, true, false, cond, eqb, ◌&&◌, ◌||◌, length, drop, filter, get_or, nat_lt, refl, ap, sym, ◌∙◌, arith, subst, drop-cons}
use Rattle.std.specs.Prelude.{nat_le}
use Rattle.std.specs.List.{AllByRecursion}
use Rattle.std.proofs.lemmas.List.{drop_all}
use Rattle.std.proofs.lemmas.Bool.Decides.{nat_tests}
use Rattle.scenario_values.specs.Keep.{holds, ascend_from}
use Rattle.scenario_values.specs.inside.Walks.{Ascends, StandsAt}

-- the numbers of a set from one on
abbrev pub from : ℕ → List ℕ → List ℕ
from n set = filter (λ k. nat_le n k) set

pub both : (a b : Bool) → (a && b) ≡ true → (a ≡ true) × (b ≡ true)
both true b e = (refl, e)
both false b e = absurd cc

none : (a b : Bool) → (a || b) ≡ false → (a ≡ false) × (b ≡ false)
none true b e = absurd cc
none false b e = (refl, e)

-- ---- tests of a set

above : (low n : ℕ) (k : ℕ) (ks : List ℕ) → k < low → ascend_from low n ks ≡ true → AllByRecursion (λ x. k < x) ks
above low n k [] h e = tt
above low n k (x ∷ xs) h e =
    let p = both (nat_le low x && nat_lt x n) (ascend_from (x + 1) n xs) e in
    let q = both (nat_le low x) (nat_lt x n) p.0 in
    let here : low ≤ x = grind (arith, nat_tests, q.0) in
    (omega arith, above (x + 1) n k xs (omega arith) p.1)

pub ascends_from : (low n : ℕ) (set : List ℕ) → ascend_from low n set ≡ true → Ascends set
ascends_from low n [] e = tt
ascends_from low n (x ∷ xs) e =
    let p = both (nat_le low x && nat_lt x n) (ascend_from (x + 1) n xs) e in
    (above (x + 1) n x xs (omega arith) p.1, ascends_from (x + 1) n xs p.1)

-- ---- one step of a walk

le_case : (n k : ℕ) → eqb k n ≡ false → nat_le n k ≡ nat_le (n + 1) k
le_case n k e = grind (arith, nat_tests)

-- If the set lacks a number, it has the same numbers from that one on and from the next one on.
pub from_absent : (n : ℕ) (set : List ℕ) → holds set n ≡ false → from n set ≡ from (n + 1) set
from_absent n [] e = refl
from_absent n (k ∷ ks) e =
    let p = none (eqb k n) (holds ks n) e in
    ap (λ b. cond b (k ∷ from n ks) (from n ks)) (le_case n k p.0) ∙ ap (λ r. cond (nat_le (n + 1) k) (k ∷ r) r) (from_absent n ks p.1)

pub absent : (n : ℕ) (ks : List ℕ) → AllByRecursion (λ x. n < x) ks → holds ks n ≡ false
absent n [] a = refl
absent n (k ∷ ks) a = let here : eqb k n ≡ false = grind (arith, nat_tests, a.0) in ap (λ b. b || holds ks n) here ∙ absent n ks a.1

below_case : (k n x : ℕ) (xs : List ℕ) (b : Bool) → eqb x n ≡ b → k < x → (holds xs n ≡ true → k < n) → (b || holds xs n) ≡ true → k < n
below_case k n x xs true e h f t = let here : x ≡ n = grind (arith, nat_tests) in omega arith
below_case k n x xs false e h f t = f t

pub below : (k n : ℕ) (ks : List ℕ) → AllByRecursion (λ x. k < x) ks → holds ks n ≡ true → k < n
below k n [] a e = absurd cc
below k n (x ∷ xs) a e = below_case k n x xs (eqb x n) refl a.0 (λ t. below k n xs a.1 t) e

present_case : (n k : ℕ) (ks : List ℕ) (b : Bool) → eqb k n ≡ b → AllByRecursion (λ x. k < x) ks → (holds ks n ≡ true → from n ks ≡ n ∷ from (n + 1) ks) → (b || holds ks n) ≡ true
    → from n (k ∷ ks) ≡ n ∷ from (n + 1) (k ∷ ks)
present_case n k ks true e a f t =
    let same : k ≡ n = grind (arith, nat_tests) in
    let here : nat_le n k ≡ true = grind (arith, nat_tests) in
    let next : nat_le (n + 1) k ≡ false = grind (arith, nat_tests) in
    let P : ℕ → Type 0 = λ x. AllByRecursion (λ y. x < y) ks in
    ap (λ b. cond b (k ∷ from n ks) (from n ks)) here ∙ ap (λ x. x ∷ from n ks) same ∙ ap (λ r. n ∷ r) (from_absent n ks (absent n ks (subst P same a)))
    ∙ ap (λ b. n ∷ cond b (k ∷ from (n + 1) ks) (from (n + 1) ks)) (sym next)
present_case n k ks false e a f t =
    let less : k < n = below k n ks a t in
    let here : nat_le n k ≡ false = grind (arith, nat_tests) in
    let next : nat_le (n + 1) k ≡ false = grind (arith, nat_tests) in
    ap (λ b. cond b (k ∷ from n ks) (from n ks)) here ∙ f t ∙ ap (λ b. n ∷ cond b (k ∷ from (n + 1) ks) (from (n + 1) ks)) (sym next)

-- If the set holds a number, it stands first of those from that one on.
pub from_present : (n : ℕ) (set : List ℕ) → Ascends set → holds set n ≡ true → from n set ≡ n ∷ from (n + 1) set
from_present n [] a e = absurd cc
from_present n (k ∷ ks) a e = present_case n k ks (eqb k n) refl a.0 (λ t. from_present n ks a.1 t) e

drop_rest : (p : ℕ) (xs : List ℕ) (y : ℕ) (ys : List ℕ) → drop p xs ≡ y ∷ ys → drop (suc p) xs ≡ ys
drop_rest zero [] y ys e = absurd cc
drop_rest zero (x ∷ xs) y ys e = cc
drop_rest (suc p) [] y ys e = absurd cc
drop_rest (suc p) (x ∷ xs) y ys e = drop_rest p xs y ys e

pub walk_passes : (set : List ℕ) (n passed : ℕ) → Ascends set → StandsAt set n passed → holds set n ≡ true → StandsAt set (n + 1) (passed + 1)
walk_passes set n passed a s e = let next : suc passed ≡ passed + 1 = omega arith in subst (λ (p : ℕ). drop p set ≡ from (n + 1) set) next (drop_rest passed set n (from (n + 1) set) (s ∙ from_present n set a e))

pub walk_stays : (set : List ℕ) (n passed : ℕ) → StandsAt set n passed → holds set n ≡ false → StandsAt set (n + 1) passed
walk_stays set n passed s e = s ∙ from_absent n set e

pub walk_starts : (set : List ℕ) → StandsAt set 0 0
walk_starts [] = refl
walk_starts (k ∷ ks) =
    let here : nat_le 0 k ≡ true = grind (arith, nat_tests) in
    ap (λ r. k ∷ r) (walk_starts ks) ∙ ap (λ b. cond b (k ∷ from 0 ks) (from 0 ks)) (sym here)

first_case : (n k y : ℕ) (ks ys : List ℕ) (b : Bool) → nat_le n k ≡ b → (from n ks ≡ y ∷ ys → n ≤ y) → cond b (k ∷ from n ks) (from n ks) ≡ y ∷ ys → n ≤ y
first_case n k y ks ys true e f t = let same : k ≡ y = cc in let here : n ≤ k = grind (arith, nat_tests) in omega arith
first_case n k y ks ys false e f t = f t

first_from : (n y : ℕ) (xs ys : List ℕ) → from n xs ≡ y ∷ ys → n ≤ y
first_from n y [] ys e = absurd cc
first_from n y (k ∷ ks) ys e = first_case n k y ks ys (nat_le n k) refl (λ t. first_from n y ks ys t) e

next_case : (set : List ℕ) (n passed x : ℕ) (b : Bool) → holds set n ≡ b → Ascends set → StandsAt set n passed → passed < length set → x ≡ get_or set passed 0 → eqb x n ≡ b
next_case set n passed x true e a s l is =
    let here : n ∷ from (n + 1) set ≡ get_or set passed 0 ∷ drop (suc passed) set = sym (s ∙ from_present n set a e) ∙ drop-cons set passed 0 l in
    let same : n ≡ get_or set passed 0 = cc in
    let equal : x ≡ n = is ∙ sym same in
    grind (arith, nat_tests)
next_case set n passed x false e a s l is =
    let here : from (n + 1) set ≡ get_or set passed 0 ∷ drop (suc passed) set = sym (s ∙ from_absent n set e) ∙ drop-cons set passed 0 l in
    let more : n + 1 ≤ get_or set passed 0 = first_from (n + 1) (get_or set passed 0) set (drop (suc passed) set) here in
    let above : n < x = omega arith in
    grind (arith, nat_tests)

-- the next number of the set is compared
pub next_is : (set : List ℕ) (n passed x : ℕ) → Ascends set → StandsAt set n passed → passed < length set → x ≡ get_or set passed 0 → eqb x n ≡ holds set n
next_is set n passed x a s l is = next_case set n passed x (holds set n) refl a s l is

present_within : (set : List ℕ) (n passed : ℕ) (b : Bool) → holds set n ≡ b → Ascends set → StandsAt set n passed → length set ≤ passed → false ≡ b
present_within set n passed false e a s l = refl
present_within set n passed true e a s l =
    let here : n ∷ from (n + 1) set ≡ [] = sym (s ∙ from_present n set a e) ∙ drop_all passed set l in
    absurd cc

-- the set is passed
pub no_next : (set : List ℕ) (n passed : ℕ) → Ascends set → StandsAt set n passed → length set ≤ passed → false ≡ holds set n
no_next set n passed a s l = present_within set n passed (holds set n) refl a s l
