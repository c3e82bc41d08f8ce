-- The scenarios of plans that grew.
use Rattle.std.specs.Prelude.{ℕ, List, [], Option, None, Some, map}
use Rattle.scenario_values.specs.Scenario.{Entries}
use Rattle.action_eval.specs.declared.rig.Rig.{Rig}
use Rattle.action_eval.specs.RiggedScenario.{rigged_scenario}
use Rattle.grown_plans.specs.GrownPlans.{rigs_of}

-- The scenario of a plan, over the names of its points. It is `scenario_of` a subject with these names.
abbrev pub grown_scenario : List (List ℕ) → List Rig → Entries
grown_scenario names plan = rigged_scenario names (rigs_of plan)

-- The scenarios of plans, in order.
abbrev pub grown_scenarios : List (List ℕ) → List (List Rig) → List Entries
grown_scenarios names plans = map (grown_scenario names) plans

-- The plans that grew, if any did.
abbrev pub grown_among : Option (List (List Rig)) → List (List Rig)
grown_among None = []
grown_among (Some plans) = plans
