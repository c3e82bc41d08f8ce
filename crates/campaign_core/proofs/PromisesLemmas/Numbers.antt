-- Members of lists by their numbers.
use Rattle.std.proofs.Common.{◌≡◌, ◌≢◌, ℕ, zero, suc, ◌+◌, ◌-◌, ◌<◌, ◌≤◌, Some, List, [], ◌∷◌, ◌++◌, map, length, refl, ap, sym, ◌∙◌, subst, arith, length-append}
use Rattle.std.specs.Prelude.{Contains, slice_get, sum}
use Rattle.std.specs.List.{AllByRecursion, range_with_len}
use Rattle.std.proofs.lemmas.List.FromFn.{map-range_with_len_more}
use Rattle.std.proofs.lemmas.List.Sums.{sum_by-append}
use Rattle.grown_plans.specs.GrownPlans.{Subject, level, levels, levels_to}
use Rattle.grown_plans.specs.Promises.{EachTwo}
use Rattle.grown_plans.proofs.Paths.{some_is}

pub get_map : {A B : Type 0} (f : A → B) (xs : List A) (k : ℕ) (x : A) → slice_get xs k ≡ Some x → slice_get (map f xs) k ≡ Some (f x)
get_map f [] k x e = absurd cc
get_map {A} {B} f (y ∷ xs) zero x e = ap (λ (z : A). Some (f z)) (some_is y x e)
get_map f (y ∷ xs) (suc k) x e = get_map f xs k x e

-- what a member of a mapped list comes from
pub get_unmapped : {A B : Type 0} (f : A → B) (xs : List A) (k : ℕ) (y : B) → slice_get (map f xs) k ≡ Some y → (x : A) × (slice_get xs k ≡ Some x) × (f x ≡ y)
get_unmapped f [] k y e = absurd cc
get_unmapped f (x ∷ xs) zero y e = (x, refl, some_is (f x) y e)
get_unmapped f (x ∷ xs) (suc k) y e = get_unmapped f xs k y e

pub get_split : {A : Type 0} (before : List A) (one : A) (after : List A) → slice_get (before ++ one ∷ after) (length before) ≡ Some one
get_split [] one after = refl
get_split (x ∷ before) one after = get_split before one after

pub get_front : {A : Type 0} (xs ys : List A) (k : ℕ) (x : A) → slice_get xs k ≡ Some x → slice_get (xs ++ ys) k ≡ Some x
get_front [] ys k x e = absurd cc
get_front (y ∷ xs) ys zero x e = e
get_front (y ∷ xs) ys (suc k) x e = get_front xs ys k x e

-- a member of the front, by a number within it
pub get_in_front : {A : Type 0} (xs ys : List A) (k : ℕ) (x : A) → k < length xs → slice_get (xs ++ ys) k ≡ Some x → slice_get xs k ≡ Some x
get_in_front [] ys k x h e = absurd (omega (arith, h))
get_in_front (y ∷ xs) ys zero x h e = e
get_in_front (y ∷ xs) ys (suc k) x h e = get_in_front xs ys k x (omega (arith, h)) e

-- a member of what stands behind, by a number past the front
pub get_behind : {A : Type 0} (xs ys : List A) (k : ℕ) (x : A) → length xs ≤ k → slice_get (xs ++ ys) k ≡ Some x → slice_get ys (k - length xs) ≡ Some x
get_behind {A} [] ys k x le e = ap (λ n. slice_get ys n) (let goal : k - 0 ≡ k = omega arith in goal) ∙ e
get_behind (y ∷ xs) ys zero x le e = absurd (omega (arith, le))
get_behind (y ∷ xs) ys (suc k) x le e =
    ap (λ n. slice_get ys n) (let goal : suc k - suc (length xs) ≡ k - length xs = omega arith in goal) ∙ get_behind xs ys k x (omega (arith, le)) e

pub all_at : {A : Type 0} (P : A → Type 0) (xs : List A) (k : ℕ) (x : A) → AllByRecursion P xs → slice_get xs k ≡ Some x → P x
all_at P [] k x a e = absurd cc
all_at P (y ∷ xs) zero x a e = subst P (some_is y x e) a.0
all_at P (y ∷ xs) (suc k) x a e = all_at P xs k x a.1 e

pub contains_at : {A : Type 0} (xs : List A) (k : ℕ) (x : A) → slice_get xs k ≡ Some x → Contains xs x
contains_at [] k x e = absurd cc
contains_at (y ∷ xs) zero x e = (0, omega arith, some_is y x e)
contains_at (y ∷ xs) (suc k) x e = let c = contains_at xs k x e in (suc c.0, (let less : c.0 < length xs = c.1 in omega (arith, less)), c.2)

pub at_contained : {A : Type 0} (xs : List A) (x : A) → Contains xs x → (k : ℕ) × (k < length xs) × (slice_get xs k ≡ Some x)
at_contained [] x (k, less, is) = absurd (omega (arith, less))
at_contained {A} (y ∷ xs) x (zero, less, is) = (0, omega arith, ap (λ (z : A). Some z) is)
at_contained (y ∷ xs) x (suc k, less, is) =
    let c = at_contained xs x (k, omega (arith, less), is) in (suc c.0, (let low : c.0 < length xs = c.1 in omega (arith, low)), c.2)

-- members that differ have one number each
pub one_number : {A : Type 0} (xs : List A) (i k : ℕ) (x : A) → EachTwo (λ a b. a ≢ b) xs → slice_get xs i ≡ Some x → slice_get xs k ≡ Some x → i ≡ k
one_number [] i k x e a b = absurd cc
one_number (y ∷ xs) zero zero x e a b = refl
one_number (y ∷ xs) zero (suc k) x e a b = absurd (all_at (λ z. y ≢ z) xs k x e.0 b (some_is y x a))
one_number (y ∷ xs) (suc i) zero x e a b = absurd (all_at (λ z. y ≢ z) xs i x e.0 a (some_is y x b))
one_number (y ∷ xs) (suc i) (suc k) x e a b = ap suc (one_number xs i k x e.1 a b)

-- how many plans the levels have, by their sizes
pub sum_more : (xs : List ℕ) (n : ℕ) → sum (xs ++ n ∷ []) ≡ sum xs + n
sum_more xs n = sum_by-append (λ (x : ℕ). x) xs (n ∷ []) ∙ (let goal : sum xs + (0 + n) ≡ sum xs + n = omega arith in goal)

pub sizes_sum : (t : Subject) (d : ℕ) → sum (map (λ n. length (level t n)) (range_with_len 0 (d + 1))) ≡ length (levels t d)
unfolding levels_to
sizes_sum t zero = omega arith
sizes_sum t (suc d) =
    ap (λ k. sum (map (λ n. length (level t n)) (range_with_len 0 k))) (let goal : suc d + 1 ≡ d + 1 + 1 = omega arith in goal)
    ∙ ap (λ (l : List ℕ). sum l) (map-range_with_len_more (λ n. length (level t n)) 0 (d + 1) (suc d) (omega arith))
    ∙ sum_more (map (λ n. length (level t n)) (range_with_len 0 (d + 1))) (length (level t (suc d)))
    ∙ ap (λ n. n + length (level t (suc d))) (sizes_sum t d) ∙ sym (length-append (levels t d) (level t (suc d)))
