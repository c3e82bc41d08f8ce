-- How many plans there are, before any is made. Private contracts cite it.
use Rattle.std.specs.Prelude.{ℕ, zero, suc, ◌+◌, ◌*◌, if◌then◌else◌, List, [], ◌∷◌, length}
use Rattle.plan_gen.specs.PlanList.{Asked}

-- How many sites there are.
abbrev pub total_of : List ℕ → ℕ
total_of [] = 0
total_of (n ∷ ns) = n + total_of ns

abbrev pub pairs_count : ℕ → ℕ
pairs_count zero = 0
pairs_count (suc n) = n + pairs_count n

-- How many plans there are, by the number of sites.
abbrev pub plan_count : ℕ → Asked → ℕ
plan_count n asked = 1 + 3 * n + (if asked.pairs then 2 * pairs_count n else 0) + asked.storms + length asked.listed
