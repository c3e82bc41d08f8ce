-- What stands among the pushed numbers is below the count.
use Rattle.std.proofs.Common.{◌≡◌, ℕ, ◌+◌, ◌<◌, Bool, not, ltb, cond, List, [], ◌∷◌, count_by, All, Option, Some, None, IfSome, refl, arith}
use Rattle.std.proofs.lemmas.List.Sums.{sum_by-cons}
use Rattle.std.proofs.lemmas.List.Elements.{All-head, All-tail}
use Rattle.std.proofs.lemmas.Bool.Decides.{nat_tests}

abbrev above : ℕ → ℕ → Bool
above count x = not (ltb x count)

one_more : (count x n m : ℕ) → x < count → n ≡ 0 → m ≡ cond (above count x) 1 0 + n → m ≡ 0
one_more count x n m here rest step = grind (arith, nat_tests)

none_above : (count : ℕ) (xs : List ℕ) → All (λ x. x < count) xs → count_by (above count) xs ≡ 0
none_above count [] all = refl
none_above count (x ∷ xs) all =
    let here = All-head (λ x. x < count) x xs all in
    let rest = none_above count xs (All-tail (λ x. x < count) x xs all) in
    let step = sum_by-cons (λ y. cond (above count y) 1 0) x xs in
    one_more count x (count_by (above count) xs) (count_by (above count) (x ∷ xs)) here rest step

is_below : (count x : ℕ) → 0 + cond (above count x) 1 0 ≡ 0 → x < count
is_below count x none = grind (arith, nat_tests)

pub below_found : (found : Option ℕ) (pushed : List ℕ) (count : ℕ) → All (λ x. x < count) pushed
    → IfSome found (λ x. (test : ℕ → Bool) → count_by test pushed ≡ 0 → count_by test (x ∷ []) ≡ 0) → IfSome found (λ x. x < count)
below_found None pushed count all among = tt
below_found (Some x) pushed count all among = is_below count x (among (above count) (none_above count pushed all))
