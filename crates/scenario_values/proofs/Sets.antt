-- Sets of numbers, and how many of their members are below a number.
use Rattle.std.proofs.Common.{◌≡◌, ℕ, zero, suc, ◌+◌, ◌<◌, ◌≤◌, List, [], ◌∷◌, Bool, true, false, cond, eqb, ◌&&◌, ◌||◌, length, map, get_or, nat_lt, refl, ap, sym, ◌∙◌, arith, subst}
use Rattle.std.specs.Prelude.{nat_le, remove, slice_index}
use Rattle.std.specs.List.{AllByRecursion, range_with_len}
use Rattle.std.proofs.lemmas.Bool.Decides.{nat_tests}
use Rattle.scenario_values.specs.Keep.{holds, ascend_from, are_faults, members_at}
use Rattle.scenario_values.specs.inside.Walks.{Ascends}
use Rattle.scenario_values.proofs.Walking.{both, absent, below}

-- how many of these are below k
abbrev pub rank : List ℕ → ℕ → ℕ
rank [] k = 0
rank (x ∷ xs) k = cond (nat_lt x k) (suc (rank xs k)) (rank xs k)

rank_step : (x k r s : ℕ) → eqb x k ≡ false → r ≡ s → cond (nat_lt x (k + 1)) (suc r) r ≡ cond (nat_lt x k) (suc s) s
rank_step x k r s e h = let same : nat_lt x (k + 1) ≡ nat_lt x k = grind (arith, nat_tests) in ap (λ n. cond (nat_lt x (k + 1)) (suc n) n) h ∙ ap (λ b. cond b (suc s) s) same

absent_case : (x k : ℕ) (b c : Bool) → eqb x k ≡ b → (b || c) ≡ false → (eqb x k ≡ false) × (c ≡ false)
absent_case x k true c e f = absurd cc
absent_case x k false c e f = (e, f)

pub rank_absent : (k : ℕ) (xs : List ℕ) → holds xs k ≡ false → rank xs (k + 1) ≡ rank xs k
rank_absent k [] e = refl
rank_absent k (x ∷ xs) e = let p = absent_case x k (eqb x k) (holds xs k) refl e in rank_step x k (rank xs (k + 1)) (rank xs k) p.0 (rank_absent k xs p.1)

present_case : (x k : ℕ) (xs : List ℕ) (b : Bool) → eqb x k ≡ b → AllByRecursion (λ y. x < y) xs → (holds xs k ≡ true → rank xs (k + 1) ≡ suc (rank xs k)) → (b || holds xs k) ≡ true → rank (x ∷ xs) (k + 1) ≡ suc (rank (x ∷ xs) k)
present_case x k xs true e a f t =
    let same : x ≡ k = grind (arith, nat_tests) in
    let here : nat_lt x (k + 1) ≡ true = grind (arith, nat_tests) in
    let none : nat_lt x k ≡ false = grind (arith, nat_tests) in
    let P : ℕ → Type 0 = λ n. AllByRecursion (λ y. n < y) xs in
    ap (λ b. cond b (suc (rank xs (k + 1))) (rank xs (k + 1))) here ∙ ap (λ n. suc n) (rank_absent k xs (absent k xs (subst P same a))) ∙ ap (λ b. suc (cond b (suc (rank xs k)) (rank xs k))) (sym none)
present_case x k xs false e a f t =
    let less : x < k = below x k xs a t in
    let here : nat_lt x (k + 1) ≡ true = grind (arith, nat_tests) in
    let there : nat_lt x k ≡ true = grind (arith, nat_tests) in
    ap (λ b. cond b (suc (rank xs (k + 1))) (rank xs (k + 1))) here ∙ ap (λ n. suc n) (f t) ∙ ap (λ b. suc (cond b (suc (rank xs k)) (rank xs k))) (sym there)

pub rank_present : (k : ℕ) (xs : List ℕ) → Ascends xs → holds xs k ≡ true → rank xs (k + 1) ≡ suc (rank xs k)
rank_present k [] a e = absurd cc
rank_present k (x ∷ xs) a e = present_case x k xs (eqb x k) refl a.0 (λ t. rank_present k xs a.1 t) e

pub rank_low : (k : ℕ) (xs : List ℕ) → AllByRecursion (λ y. k ≤ y) xs → rank xs k ≡ 0
rank_low k [] a = refl
rank_low k (x ∷ xs) a = let here : nat_lt x k ≡ false = grind (arith, nat_tests, a.0) in ap (λ b. cond b (suc (rank xs k)) (rank xs k)) here ∙ rank_low k xs a.1

pub rank_high : (k : ℕ) (xs : List ℕ) → AllByRecursion (λ y. y < k) xs → rank xs k ≡ length xs
rank_high k [] a = refl
rank_high k (x ∷ xs) a = let here : nat_lt x k ≡ true = grind (arith, nat_tests, a.0) in ap (λ b. cond b (suc (rank xs k)) (rank xs k)) here ∙ ap suc (rank_high k xs a.1)

pub weaker : (P Q : ℕ → Type 0) → ((n : ℕ) → P n → Q n) → (xs : List ℕ) → AllByRecursion P xs → AllByRecursion Q xs
weaker P Q f [] a = tt
weaker P Q f (x ∷ xs) a = (f x a.0, weaker P Q f xs a.1)

all_low : (xs : List ℕ) → AllByRecursion (λ y. 0 ≤ y) xs
all_low [] = tt
all_low (x ∷ xs) = (omega arith, all_low xs)

pub rank_zero : (xs : List ℕ) → rank xs 0 ≡ 0
rank_zero xs = rank_low 0 xs (all_low xs)

pub within : (low n : ℕ) (set : List ℕ) → ascend_from low n set ≡ true → AllByRecursion (λ k. k < n) set
within low n [] e = tt
within low n (x ∷ xs) e =
    let p = both (nat_le low x && nat_lt x n) (ascend_from (x + 1) n xs) e in
    let q = both (nat_le low x) (nat_lt x n) p.0 in
    (grind (arith, nat_tests, q.1), within (x + 1) n xs p.1)

-- ---- the member at a place is the one of which so many are below

first_member : (x k : ℕ) (xs : List ℕ) (b c : Bool) → eqb x k ≡ b → holds xs k ≡ c → AllByRecursion (λ y. x < y) xs → b ≡ ((b || c) && eqb 0 (rank (x ∷ xs) k))
first_member x k xs true c e f a =
    let same : x ≡ k = grind (arith, nat_tests) in
    let none : nat_lt x k ≡ false = grind (arith, nat_tests) in
    let P : ℕ → Type 0 = λ n. AllByRecursion (λ y. n < y) xs in
    let low = rank_low k xs (weaker (λ y. k < y) (λ y. k ≤ y) (λ n h. omega arith) xs (subst P same a)) in
    sym (ap (λ b. eqb 0 (cond b (suc (rank xs k)) (rank xs k))) none ∙ ap (λ n. eqb 0 n) low)
first_member x k xs false true e f a =
    let less : x < k = below x k xs a f in
    let there : nat_lt x k ≡ true = grind (arith, nat_tests) in
    let apart : eqb 0 (suc (rank xs k)) ≡ false = grind (arith, nat_tests) in
    sym (ap (λ b. eqb 0 (cond b (suc (rank xs k)) (rank xs k))) there ∙ apart)
first_member x k xs false false e f a = refl

later_member : (x k j : ℕ) (xs : List ℕ) (b c : Bool) → eqb x k ≡ b → holds xs k ≡ c → AllByRecursion (λ y. x < y) xs → (c && eqb j (rank xs k)) ≡ ((b || c) && eqb (suc j) (rank (x ∷ xs) k))
later_member x k j xs true c e f a =
    let same : x ≡ k = grind (arith, nat_tests) in
    let none : nat_lt x k ≡ false = grind (arith, nat_tests) in
    let P : ℕ → Type 0 = λ n. AllByRecursion (λ y. n < y) xs in
    let up = subst P same a in
    let low = rank_low k xs (weaker (λ y. k < y) (λ y. k ≤ y) (λ n h. omega arith) xs up) in
    let apart : eqb (suc j) 0 ≡ false = grind (arith, nat_tests) in
    ap (λ b. b && eqb j (rank xs k)) (sym f ∙ absent k xs up) ∙ sym (ap (λ b. eqb (suc j) (cond b (suc (rank xs k)) (rank xs k))) none ∙ ap (λ n. eqb (suc j) n) low ∙ apart)
later_member x k j xs false true e f a =
    let less : x < k = below x k xs a f in
    let there : nat_lt x k ≡ true = grind (arith, nat_tests) in
    let shift : eqb (suc j) (suc (rank xs k)) ≡ eqb j (rank xs k) = grind (arith, nat_tests) in
    sym (ap (λ b. eqb (suc j) (cond b (suc (rank xs k)) (rank xs k))) there ∙ shift)
later_member x k j xs false false e f a = refl

pub member_is : (k i : ℕ) (xs : List ℕ) → Ascends xs → i < length xs → eqb (slice_index xs i) k ≡ (holds xs k && eqb i (rank xs k))
member_is k i [] a h = absurd (omega arith)
member_is k zero (x ∷ xs) a h = first_member x k xs (eqb x k) (holds xs k) refl refl a.0
member_is k (suc j) (x ∷ xs) a h = member_is k j xs a.1 (omega arith) ∙ later_member x k j xs (eqb x k) (holds xs k) refl refl a.0

or_and : (a b c : Bool) → ((a && b) || (a && c)) ≡ (a && (b || c))
or_and true b c = refl
or_and false b c = refl

and_false : (a : Bool) → false ≡ (a && false)
and_false true = refl
and_false false = refl

-- A number is one of the members at some places if the set holds it and its place is one of these.
pub holds_members : (k : ℕ) (set places : List ℕ) → Ascends set → AllByRecursion (λ i. i < length set) places → holds (members_at set places) k ≡ (holds set k && holds places (rank set k))
holds_members k set [] a w = and_false (holds set k)
holds_members k set (i ∷ places) a w =
    ap (λ b. b || holds (members_at set places) k) (member_is k i set a w.0) ∙ ap (λ b. (holds set k && eqb i (rank set k)) || b) (holds_members k set places a w.1)
    ∙ or_and (holds set k) (eqb i (rank set k)) (holds places (rank set k))

-- ---- ranges, and sets without one member

pub map_remove : (f : ℕ → ℕ) (xs : List ℕ) (i : ℕ) → map f (remove xs i) ≡ remove (map f xs) i
map_remove f [] zero = refl
map_remove f [] (suc i) = refl
map_remove f (x ∷ xs) zero = refl
map_remove f (x ∷ xs) (suc i) = ap (λ l. f x ∷ l) (map_remove f xs i)

indices_from : (f : ℕ → ℕ) (a : ℕ) (xs : List ℕ) → ((j : ℕ) → j < length xs → f (a + j) ≡ get_or xs j 0) → map f (range_with_len a (length xs)) ≡ xs
indices_from f a [] h = refl
indices_from f a (x ∷ xs) h =
    let here : f a ≡ x = let same : a ≡ a + 0 = omega arith in ap f same ∙ h 0 (omega arith) in
    let rest = indices_from f (a + 1) xs (λ j l. let same : (a + 1) + j ≡ a + suc j = omega arith in ap f same ∙ h (suc j) (omega arith)) in
    ap (λ y. y ∷ map f (range_with_len (a + 1) (length xs))) here ∙ ap (λ l. x ∷ l) rest

pub members_all : (set : List ℕ) → members_at set (range_with_len 0 (length set)) ≡ set
members_all set = indices_from (λ i. slice_index set i) 0 set (λ j l. let same : 0 + j ≡ j = omega arith in ap (λ i. slice_index set i) same)

pub members_without : (set : List ℕ) (i : ℕ) → members_at set (remove (range_with_len 0 (length set)) i) ≡ remove set i
members_without set i = map_remove (λ i. slice_index set i) (range_with_len 0 (length set)) i ∙ ap (λ l. remove l i) (members_all set)

pub range_within : (a m n : ℕ) → a + m ≤ n → AllByRecursion (λ k. k < n) (range_with_len a m)
range_within a zero n h = tt
range_within a (suc m) n h = (omega arith, range_within (a + 1) m n (omega arith))

pub range_ascends_above : (k a n : ℕ) → k < a → AllByRecursion (λ x. k < x) (range_with_len a n)
range_ascends_above k a zero h = tt
range_ascends_above k a (suc n) h = (h, range_ascends_above k (a + 1) n (omega arith))

pub remove_all : (P : ℕ → Type 0) (xs : List ℕ) (i : ℕ) → AllByRecursion P xs → AllByRecursion P (remove xs i)
remove_all P [] zero h = tt
remove_all P [] (suc i) h = tt
remove_all P (x ∷ xs) zero h = h.1
remove_all P (x ∷ xs) (suc i) h = (h.0, remove_all P xs i h.1)

range_case : (a m k : ℕ) (b : Bool) → eqb a k ≡ b → a ≤ k → k < a + suc m → (a + 1 ≤ k → holds (range_with_len (a + 1) m) k ≡ true) → (b || holds (range_with_len (a + 1) m) k) ≡ true
range_case a m k true e l h f = refl
range_case a m k false e l h f = let apart : a + 1 ≤ k = grind (arith, nat_tests) in f apart

pub holds_range : (a m k : ℕ) → a ≤ k → k < a + m → holds (range_with_len a m) k ≡ true
holds_range a zero k l h = absurd (omega arith)
holds_range a (suc m) k l h = range_case a m k (eqb a k) refl l h (λ more. holds_range (a + 1) m k more (omega arith))

-- ---- sets of faults

and_both : (a b : Bool) → a ≡ true → b ≡ true → (a && b) ≡ true
and_both true b e f = f
and_both false b e f = absurd cc

pub faults_from : (low n x : ℕ) (xs : List ℕ) → low ≤ x → x < n → ascend_from (x + 1) n xs ≡ true → ascend_from low n (x ∷ xs) ≡ true
faults_from low n x xs l h e =
    let up : nat_le low x ≡ true = grind (arith, nat_tests) in
    let few : nat_lt x n ≡ true = grind (arith, nat_tests) in
    and_both (nat_le low x && nat_lt x n) (ascend_from (x + 1) n xs) (and_both (nat_le low x) (nat_lt x n) up few) e

pub faults_parts : (low n x : ℕ) (xs : List ℕ) → ascend_from low n (x ∷ xs) ≡ true → (low ≤ x) × (x < n) × (ascend_from (x + 1) n xs ≡ true)
faults_parts low n x xs e =
    let p = both (nat_le low x && nat_lt x n) (ascend_from (x + 1) n xs) e in
    let q = both (nat_le low x) (nat_lt x n) p.0 in
    (grind (arith, nat_tests, q.0), grind (arith, nat_tests, q.1), p.1)

pub from_lower : (low high n : ℕ) (xs : List ℕ) → low ≤ high → ascend_from high n xs ≡ true → ascend_from low n xs ≡ true
from_lower low high n [] h e = refl
from_lower low high n (x ∷ xs) h e = let p = faults_parts high n x xs e in faults_from low n x xs (omega arith) p.1 p.2

range_faults : (a m n : ℕ) → a + m ≤ n → ascend_from a n (range_with_len a m) ≡ true
range_faults a zero n h = refl
range_faults a (suc m) n h = faults_from a n a (range_with_len (a + 1) m) (omega arith) (omega arith) (range_faults (a + 1) m n (omega arith))

pub all_are_faults : (n : ℕ) → are_faults n (range_with_len 0 n) ≡ true
all_are_faults n = range_faults 0 n n (omega arith)

remove_from : (low n i : ℕ) (xs : List ℕ) → ascend_from low n xs ≡ true → ascend_from low n (remove xs i) ≡ true
remove_from low n zero [] e = refl
remove_from low n (suc i) [] e = refl
remove_from low n zero (x ∷ xs) e = let p = faults_parts low n x xs e in from_lower low (x + 1) n xs (omega arith) p.2
remove_from low n (suc i) (x ∷ xs) e = let p = faults_parts low n x xs e in faults_from low n x (remove xs i) p.0 p.1 (remove_from (x + 1) n i xs p.2)

pub without_are_faults : (n i : ℕ) (set : List ℕ) → are_faults n set ≡ true → are_faults n (remove set i) ≡ true
without_are_faults n i set e = remove_from 0 n i set e
