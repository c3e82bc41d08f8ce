-- Which faults of a tidied scenario come from a given set of faults of the original scenario.
use Rattle.std.specs.Prelude.{ℕ, List, filter, length, slice_index}
use Rattle.std.specs.List.{range_with_len}
use Rattle.scenario_values.specs.Scenario.{Entries}
use Rattle.scenario_values.specs.Keep.{holds}
use Rattle.scenario_values.specs.Origins.{origins}

-- The numbers, in the tidied scenario, of those of its faults that come from the set.
abbrev pub left_from : List ℕ → Entries → List ℕ
left_from set s = filter (λ i. holds set (slice_index (origins s) i)) (range_with_len 0 (length (origins s)))
