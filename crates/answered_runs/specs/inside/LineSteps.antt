-- How a line of a text of answers is read again. Private contracts cite it.
use Rattle.std.specs.Prelude.{◌≡◌, true, List, ℕ, Option, None, Some, Ok}
use Rattle.scenario_values.specs.Scenario.{Entries}
use Rattle.answer_text.specs.Runs.{run_in}
use Rattle.answer_text.specs.declared.runs.RunLine.{RunLine}

-- A line records the run of this scenario, or it can't be read.
abbrev pub IsScenarioOn : List (List ℕ) → List (List ℕ) → List ℕ → Option Entries → Type 0
IsScenarioOn codes points line None = (run : RunLine) → run_in true codes points line ≡ Ok run → ⊥
IsScenarioOn codes points line (Some s) = (run : RunLine) × (run_in true codes points line ≡ Ok run) × (run.scenario ≡ s)
