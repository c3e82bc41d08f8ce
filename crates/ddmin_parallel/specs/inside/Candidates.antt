-- A round by the numbers of its candidates, as the code counts them.

use Rattle.std.specs.Prelude.{ℕ, ◌-◌, ◌*◌, ◌^◌, ◌<◌, ◌≤◌, List, length, if◌then◌else◌, nat_lt, max, Option, None, Some}
use Rattle.ddmin_parallel.specs.Rounds.{part, complement, Candidate}
use Rattle.ddmin_parallel.specs.Ddmin.{Decision, Fails, NoneFails}

-- The list can be cut into n parts: at least two, no more than it has members, and it has so few members that no index overflows.
abbrev pub CanBeCut : List ℕ → ℕ → Type 0
CanBeCut c n = (2 ≤ n) × (n ≤ length c) × (length c < 2 ^ 31)

-- Candidate k of the round of (c, n).
unfoldable pub candidate : List ℕ → ℕ → ℕ → Candidate
candidate c n k =
    if nat_lt k n then record { set = part c n k; parts = 2 }
    else record { set = complement c n (k - n); parts = max (n - 1) 2 }

-- How many candidates a round has.
abbrev pub candidates : ℕ → ℕ
candidates n = if nat_lt 2 n then 2 * n else n

-- The decision, if this candidate was found to fail, or none was.
abbrev pub found : Option Candidate → ℕ → Decision
found None tests = NoneFails tests
found (Some s) tests = Fails s tests
