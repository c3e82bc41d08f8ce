-- The lines that ask for scenarios: the text of each scenario, and each text once, at its first place.
use Rattle.std.specs.Prelude.{ℕ, List, [], map, fold}
use Rattle.std.specs.Str.{bytes_eq}
use Rattle.indexmap.specs.IndexSet.{insert_key}
use Rattle.scenario_values.specs.Scenario.{Entries}
use Rattle.report.specs.ReportText.{scenario_text}

-- Other lines, and then those of the scenarios that aren't among them.
abbrev pub lines_behind : List (List ℕ) → List Entries → List (List ℕ)
lines_behind lines scenarios = fold (insert_key bytes_eq) lines (map scenario_text scenarios)

abbrev pub lines_for : List Entries → List (List ℕ)
lines_for scenarios = lines_behind [] scenarios
