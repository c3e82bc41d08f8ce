-- The counts of a run's points come to no more than its hits.
use Rattle.std.proofs.Common.{◌≡◌, ℕ, zero, suc, ◌+◌, ◌<◌, ◌≤◌, ◌==◌, Bool, true, false, cond, List, [], ◌∷◌, map, length, count_by, refl, arith, rules}
use Rattle.std.specs.List.{range_with_len}
use Rattle.std.proofs.lemmas.List.Sums.{sum_by-cons}
use Rattle.plan_gen.specs.Census.{counts_of}
use Rattle.plan_gen.specs.inside.Counts.{total_of}

total_both : (f g : ℕ → ℕ) (h : ℕ → ℕ) → ((p : ℕ) → h p ≡ f p + g p) → (a n : ℕ)
    → total_of (map h (range_with_len a n)) ≡ total_of (map f (range_with_len a n)) + total_of (map g (range_with_len a n))
total_both f g h is a zero = refl
total_both f g h is a (suc n) =
    let here = is a in
    let rest = total_both f g h is (a + 1) n in
    omega (arith, here, rest)

abbrev one_at : ℕ → ℕ → ℕ
one_at q p = cond {A = ℕ} (q == p) 1 0

not_past : (q p : ℕ) (b : Bool) → (q == p) ≡ b → q < p → cond {A = ℕ} b 1 0 ≡ 0
not_past q p true is lt = let same : q ≡ p = search (is, rules) in absurd (omega (arith, same, lt))
not_past q p false is lt = refl

total_past : (q a n : ℕ) → q < a → total_of (map (one_at q) (range_with_len a n)) ≡ 0
total_past q a zero lt = refl
total_past q a (suc n) lt =
    let here = not_past q a (q == a) refl lt in
    let rest = total_past q (a + 1) n (omega arith) in
    omega (arith, here, rest)

at_most : (q a n : ℕ) (b : Bool) → (q == a) ≡ b → total_of (map (one_at q) (range_with_len (a + 1) n)) ≤ 1
    → cond {A = ℕ} b 1 0 + total_of (map (one_at q) (range_with_len (a + 1) n)) ≤ 1
at_most q a n true is rest =
    let same : q ≡ a = search (is, rules) in
    let none = total_past q (a + 1) n (omega (arith, same)) in
    omega (arith, none)
at_most q a n false is rest = omega (arith, rest)

total_once : (q a n : ℕ) → total_of (map (one_at q) (range_with_len a n)) ≤ 1
total_once q a zero = omega arith
total_once q a (suc n) = at_most q a n (q == a) refl (total_once q (a + 1) n)

pub total_counts : (n : ℕ) (asked : List ℕ) → total_of (counts_of n asked) ≤ length asked
total_counts n [] = none 0 n
  where
    none : (a n : ℕ) → total_of (map (λ p. count_by (λ q. q == p) []) (range_with_len a n)) ≤ 0
    none a zero = omega arith
    none a (suc n) = let rest = none (a + 1) n in omega (arith, rest)
total_counts n (q ∷ asked) =
    let parts = total_both (one_at q) (λ p. count_by (λ r. r == p) asked) (λ p. count_by (λ r. r == p) (q ∷ asked))
    (λ p. sum_by-cons (λ r. cond {A = ℕ} (r == p) 1 0) q asked) 0 n in
    let once = total_once q 0 n in
    let rest = total_counts n asked in
    omega (arith, parts, once, rest)
