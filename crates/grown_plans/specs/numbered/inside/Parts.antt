-- The plans that come first in a campaign's list.
use Rattle.std.specs.Prelude.{◌≡◌, ℕ, List, [], Option, Some, None}
use Rattle.scenario_values.specs.Scenario.{Entries}
use Rattle.action_eval.specs.declared.rig.Rig.{Rig}
use Rattle.grown_plans.specs.numbered.GrownScenarios.{grown_scenarios}

-- Plans that grew, and the names of their points.
pub record Over : Type 0 where
  pub names : List (List ℕ)
  pub plans : List (List Rig)

abbrev pub over : List (List ℕ) → List (List Rig) → Over
over names plans = record { names = names; plans = plans }

-- The scenarios of the plans that grew, if there are any.
abbrev pub first_part : Option Over → List Entries
first_part None = []
first_part (Some o) = grown_scenarios o.names o.plans

-- The plans that grew are over points with these names.
abbrev pub AreOver : List (List ℕ) → Option Over → Type 0
AreOver names None = Unit {0}
AreOver names (Some o) = o.names ≡ names
