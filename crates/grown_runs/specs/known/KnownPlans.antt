-- The plans of a list that are known by now, and how many they are.
use Rattle.std.specs.Prelude.{◌≡◌, ℕ, ◌+◌, length, map}
use Rattle.std.specs.List.{filter, range_with_len}
use Rattle.grown_plans.specs.GrownPlans.{Subject, level, onward}
use Rattle.grown_runs.specs.known.Known.{KnownRuns}
use Rattle.grown_runs.specs.known.KnownPart.{is_reached, is_reached_onward, known_part}
use Rattle.grown_plans.specs.declared.grown_list.GrownList.{GrownList}

-- How many plans of a level are known.
abbrev pub level_size : Subject → KnownRuns → ℕ → ℕ
level_size t known n = length (filter (is_reached known) (level t n))

-- These are the known plans of a subject's list to a depth, with the known size of each level and of the one after the last.
pub record AreKnown (t : Subject) (d : ℕ) (known : KnownRuns) (k : GrownList) : Type 0 where
  pub plans : k.plans ≡ known_part t d known
  pub levels : k.levels.items ≡ map (level_size t known) (range_with_len 0 (d + 1))
  pub onward : k.onward ≡ length (filter (is_reached_onward known) (onward t d))
  pub beyond : k.beyond ≡ level_size t known (d + 1)
