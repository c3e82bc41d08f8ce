-- Plans that pass without meeting all of their faults, by the recorded hits of their runs.
use Rattle.std.specs.Prelude.{ℕ, Bool, true, false, ◌&&◌, List, Option, Some, None, count_by}
use Rattle.scenario_values.specs.Scenario.{Entries}
use Rattle.scenario_values.specs.Tidied.{tidied}
use Rattle.target_trait.specs.declared.judgement.Verdict.{Verdict}
use Rattle.target_trait.specs.declared.judgement.Verdict.TheVariants as verdict
use Rattle.answer_text.specs.Hits.{points_of}
use Rattle.answer_text.specs.Runs.{KnownRuns}
use Rattle.answer_text.specs.declared.hits.Stretch.{Stretch}
use Rattle.answer_text.specs.declared.runs.ToldRun.{ToldRun}
use Rattle.report.specs.explained.ByAnswer.{has_idle}

abbrev pub passes : Verdict → Bool
passes verdict.Pass = true
passes (verdict.Fail code) = false
passes verdict.Unresolved = false

-- Whether a fault of the scenario never acts in a run with these hits, if they are known.
abbrev pub leaves_idle : List (List ℕ) → Entries → Option (List Stretch) → Bool
leaves_idle points s None = false
leaves_idle points s (Some hits) = has_idle points s (points_of hits)

-- Whether a scenario's run is recorded as passing, and a fault of the scenario never acts in it.
abbrev pub is_unmet : List (List ℕ) → Entries → Option ToldRun → Bool
is_unmet points s None = false
is_unmet points s (Some told) = passes told.verdict && leaves_idle points s told.hits

-- How many of the plans are unmet in this sense, by the recorded runs of their tidied scenarios.
abbrev pub unmet_count : List (List ℕ) → KnownRuns → List Entries → ℕ
unmet_count points known plans = count_by (λ plan. is_unmet points (tidied plan) (known (tidied plan))) plans
