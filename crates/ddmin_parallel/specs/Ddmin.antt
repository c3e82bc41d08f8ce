-- The minimizing delta debugging algorithm, ddmin, of A. Zeller and R. Hildebrandt, "Simplifying and Isolating Failure-Inducing Input" (2002), over
-- the faults 0, 1, .. A test is a function from sets to yes or no: yes means that the set fails. The paper assumes that the empty set passes. Here it
-- is tested first, and it is the result if it fails. Each set that is looked at counts as a test, including the empty set and repeated sets.

use Rattle.std.specs.Prelude.{ℕ, zero, suc, ◌+◌, ◌-◌, ◌*◌, ◌^◌, ◌≤◌, Bool, true, false, List, [], ◌∷◌, length, nat_lt, nat_le, min}
use Rattle.std.specs.List.{range_with_len}
use Rattle.ddmin_parallel.specs.Rounds.{Candidate, round}

-- The kept set, and how many sets were looked at.
pub record Reduced : Type 0 where
  pub kept : List ℕ
  pub tests : ℕ

abbrev pub kept_after : List ℕ → ℕ → Reduced
kept_after c tests = record { kept = c; tests = tests }

-- One test more, up to the largest number of 64 bits.
abbrev pub counted : ℕ → ℕ
counted tests = min (tests + 1) (2 ^ 64 - 1)

-- What a round decides: the first candidate that fails, or that none does, and how many tests were counted by then.
pub data Decision : Type 0 where
  Fails : Candidate → ℕ → Decision
  NoneFails : ℕ → Decision

abbrev pub decide : (List ℕ → Bool) → List Candidate → ℕ → Decision
decide test [] tests = NoneFails tests
decide test (s ∷ ss) tests = elim (test s.set) [ true ↦ Fails s (counted tests) | false ↦ decide test ss (counted tests) ]

-- How ddmin2(c, n) goes on after its round, with `go` for ddmin2: with the candidate that failed; if none did, with parts
-- half as long; and if there are no shorter parts, it is done.
abbrev pub after_round : (List ℕ → ℕ → ℕ → Reduced) → List ℕ → ℕ → Decision → Reduced
after_round go c n (Fails s tests) = go s.set s.parts tests
after_round go c n (NoneFails tests) = elim (nat_lt n (length c)) [ true ↦ go c (min (length c) (2 * n)) tests | false ↦ kept_after c tests ]

-- One round of ddmin2(c, n) after this many tests, with `go` for ddmin2.
abbrev pub one_round : (List ℕ → ℕ → ℕ → Reduced) → (List ℕ → Bool) → List ℕ → ℕ → ℕ → Reduced
one_round go test c n tests = elim (nat_le (length c) 1) [ true ↦ kept_after c tests | false ↦ after_round go c n (decide test (round c n) tests) ]

-- The algorithm with at most this many rounds.
unfoldable pub ddmin_within : ℕ → (List ℕ → Bool) → List ℕ → ℕ → ℕ → Reduced
ddmin_within zero test c n tests = kept_after c tests
ddmin_within (suc rounds) test c n tests = one_round (ddmin_within rounds test) test c n tests

-- A number that becomes smaller with each round, so that it bounds the number of rounds.
abbrev pub rank : List ℕ → ℕ → ℕ
rank c n = length c * length c + (length c - n)

-- ddmin2(c, n) after this many tests. That its rule holds without a bound on the rounds is the law `ddmin2_is_its_rule`.
unfoldable pub ddmin2 : (List ℕ → Bool) → List ℕ → ℕ → ℕ → Reduced
ddmin2 test c n tests = ddmin_within (suc (rank c n)) test c n tests

-- The reduction of this many faults, 0, 1, ..
unfoldable pub ddmin : (List ℕ → Bool) → ℕ → Reduced
ddmin test zero = kept_after [] 0
ddmin test (suc more) = elim (test []) [ true ↦ kept_after [] 1 | false ↦ ddmin2 test (range_with_len 0 (suc more)) 2 1 ]

-- When ddmin2(c, n) may be asked for: c has a member, and there are at least two parts, but no more than members unless c has only one.
pub record Fits (c : List ℕ) (n : ℕ) : Type 0 where
  pub two : 2 ≤ n
  pub some : 1 ≤ length c
  pub few : 2 ≤ length c → n ≤ length c
