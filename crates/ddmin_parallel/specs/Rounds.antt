-- The sets that one step of delta debugging tries, after A. Zeller and R. Hildebrandt, "Simplifying and Isolating Failure-Inducing Input" (2002): the
-- parts of a set and their complements. The paper leaves open where parts are cut, in which order a round tries its sets, and what a round of two
-- parts adds. Here the cuts are rounded down, parts come before complements, each in their order, and with two parts there are no complements, since
-- they would be the same two sets again.

use Rattle.std.specs.Prelude.{ℕ, ◌+◌, ◌-◌, ◌*◌, ◌/◌, List, [], ◌++◌, length, take, drop, map, if◌then◌else◌, nat_lt, max}
use Rattle.std.specs.List.{range_with_len}

-- The place where part i of n begins.
abbrev pub cut : List ℕ → ℕ → ℕ → ℕ
cut c n i = i * length c / n

-- Part i of n: the members from its beginning up to that of the next part.
unfoldable pub part : List ℕ → ℕ → ℕ → List ℕ
part c n i = take (cut c n (i + 1) - cut c n i) (drop (cut c n i) c)

-- All members except those of part i of n.
unfoldable pub complement : List ℕ → ℕ → ℕ → List ℕ
complement c n i = take (cut c n i) c ++ drop (cut c n (i + 1)) c

-- A set to be tried, and the number of parts to go on with if it fails.
pub record Candidate : Type 0 where
  pub set : List ℕ
  pub parts : ℕ

-- The parts in order, and, if there are more than two, their complements in order.
unfoldable pub round : List ℕ → ℕ → List Candidate
round c n =
    map (λ i. record { set = part c n i; parts = 2 }) (range_with_len 0 n)
    ++ (if nat_lt 2 n then map (λ i. record { set = complement c n i; parts = max (n - 1) 2 }) (range_with_len 0 n) else [])
