-- The recorded runs of a component that somebody else runs, explained hit by hit.
use Rattle.std.specs.Prelude.{ℕ, List, Option, None, Some}
use Rattle.scenario_values.specs.Scenario.{Entries}
use Rattle.scenario_values.specs.Tidied.{tidied}
use Rattle.target_trait.specs.declared.judgement.Verdict.{Verdict}
use Rattle.answer_text.specs.Hits.{points_of}
use Rattle.answer_text.specs.Runs.{KnownRuns}
use Rattle.answer_text.specs.declared.hits.Stretch.{Stretch}
use Rattle.answer_text.specs.declared.runs.ToldRun.{ToldRun}
use Rattle.report.specs.explained.Told.{RunFacts}
use Rattle.report.specs.explained.ByAnswer.{answer_facts}
use Rattle.report.specs.forms.Runs.{Telling, most_hits_shown}

-- A run is explained if its hits are recorded, with these names of points and codes.
abbrev pub hits_told : List (List ℕ) → (ℕ → List ℕ) → Entries → Verdict → Option (List Stretch) → Option RunFacts
hits_told points codes scenario v None = None
hits_told points codes scenario v (Some hits) = Some (answer_facts most_hits_shown points codes scenario v (points_of hits))

abbrev pub run_told : List (List ℕ) → (ℕ → List ℕ) → Entries → Option ToldRun → Option RunFacts
run_told points codes scenario None = None
run_told points codes scenario (Some run) = hits_told points codes scenario run.verdict run.hits

-- The recorded run of each scenario. It is the same for every stream number, as answers don't record these.
abbrev pub telling : List (List ℕ) → (ℕ → List ℕ) → KnownRuns → Telling
telling points codes known stream scenario = run_told points codes scenario (known (tidied scenario))
