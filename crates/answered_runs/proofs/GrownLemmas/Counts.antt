-- A census has no more sites than the run without faults has hits.
use Rattle.std.proofs.Common.{◌≡◌, ℕ, zero, suc, ◌+◌, ◌<◌, ◌==◌, List, [], ◌∷◌, map, length, count_by, refl, arith}
use Rattle.std.specs.List.{range_with_len}
use Rattle.plan_gen.specs.Census.{counts_of, sites_of}
use Rattle.plan_gen.proofs.Counting.{sites_length}
use Rattle.plan_gen.proofs.HitCounts.{total_counts}

pub few_sites : (n : ℕ) (asked : List ℕ) → length asked < 65536 → length (sites_of (counts_of n asked)) < 65536
few_sites n asked few =
    let sites = sites_length 0 (counts_of n asked) in
    let counted = total_counts n asked in
    omega (arith, sites, counted, few)

range_length : (a n : ℕ) → length (range_with_len a n) ≡ n
range_length a zero = refl
range_length a (suc n) = let rest = range_length (a + 1) n in omega (arith, rest)

map_keeps : (f : ℕ → ℕ) (ns : List ℕ) → length (map f ns) ≡ length ns
map_keeps f [] = refl
map_keeps f (n ∷ ns) = let rest = map_keeps f ns in omega (arith, rest)

pub each_count : (n : ℕ) (asked : List ℕ) → length (counts_of n asked) ≡ n
each_count n asked =
    let kept = map_keeps (λ p. count_by (λ q. q == p) asked) (range_with_len 0 n) in
    let range = range_length 0 n in
    omega (arith, kept, range)
