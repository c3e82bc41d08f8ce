-- The list of a campaign with a depth, by answers.
use Rattle.std.specs.Prelude.{◌≡◌, ℕ, ◌++◌, List, [], map}
use Rattle.scenario_values.specs.Scenario.{Entries}
use Rattle.plan_gen.specs.PlanList.{Asked}
use Rattle.grown_plans.specs.numbered.GrownScenarios.{grown_scenarios}
use Rattle.grown_plans.specs.GrownPlans.{Subject, scenario_of}
use Rattle.grown_plans.specs.declared.grown_list.GrownList.{GrownList}
use Rattle.grown_runs.specs.known.Known.{KnownRuns}
use Rattle.grown_runs.specs.known.KnownPart.{known_part}
use Rattle.grown_runs.specs.known.KnownPlans.{AreKnown}
use Rattle.answered_runs.specs.Answered.{Answered, runs_in}
use Rattle.answered_runs.specs.grown.Further.{further_known}

-- The known part of a component's list: plans that grow, and then storms and listed scenarios.
abbrev pub list_known : Subject → ℕ → Asked → KnownRuns → List Entries
list_known t depth asked known = map (scenario_of t) (known_part t depth known) ++ further_known t asked (known [])

-- Everything is the component's: the plans that grow, the sizes of their levels, and the whole list.
pub record IsListOf (t : Subject) (depth : ℕ) (asked : Asked) (a : Answered) (list : GrownList) (further : List Entries) : Type 0 where
  pub grown : AreKnown t depth (runs_in a) list
  pub whole : grown_scenarios a.points list.plans ++ further ≡ list_known t depth asked (runs_in a)
