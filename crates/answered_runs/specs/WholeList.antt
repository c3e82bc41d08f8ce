-- Whether the runs of all plans of a list are recorded.
use Rattle.std.specs.Prelude.{◌≡◌, ℕ, ◌<◌, true, List, [], Option, None, Some, length, slice_index_or, take}
use Rattle.std.specs.List.{AllByRecursion, filter}
use Rattle.action_eval.specs.declared.rig.Rig.{Rig}
use Rattle.grown_runs.specs.known.Known.{KnownRuns}
use Rattle.grown_runs.specs.known.KnownPart.{are_told}
use Rattle.grown_runs.specs.known.Unseen.{is_unseen}

-- The run of each of these plans is recorded.
abbrev pub AreAllTold : KnownRuns → List (List Rig) → Type 0
AreAllTold runs plans = AllByRecursion (λ plan. are_told (runs plan) ≡ true) plans

-- The run of the plan of this number isn't recorded, and that of each plan before it is.
pub record IsGap (runs : KnownRuns) (plans : List (List Rig)) (n : ℕ) : Type 0 where
  pub within : n < length plans
  pub before : AreAllTold runs (take n plans)
  pub untold : runs (slice_index_or plans n []) ≡ None

abbrev pub AreTold : KnownRuns → List (List Rig) → Option ℕ → Type 0
AreTold runs plans None = AreAllTold runs plans
AreTold runs plans (Some n) = IsGap runs plans n

-- How many of these plans' runs are recorded without their hits.
abbrev pub unseen_count : KnownRuns → List (List Rig) → ℕ
unseen_count runs plans = length (filter (is_unseen runs) plans)
