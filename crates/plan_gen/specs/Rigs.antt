-- Plans that are made of rigged hits at the points of a target.
use Rattle.std.specs.Prelude.{ℕ, List}
use Rattle.scenario_values.specs.Scenario.{Entries}

-- The plans, and the names of the points.
pub record Rigs : Type 0 where
  pub plans : List Entries
  pub names : List (List ℕ)
