-- The runs that are shown with a report: the one without faults, those of the findings, and those of the causes.
use Rattle.std.specs.Prelude.{◌≡◌, ℕ, List, [], ◌∷◌, Option, None, Some, length, map, slice_index_or, take}
use Rattle.scenario_values.specs.Scenario.{Entries}
use Rattle.action_eval.specs.declared.rig.Rig.{Rig}
use Rattle.grown_plans.specs.numbered.GrownScenarios.{grown_scenario, grown_scenarios}
use Rattle.report.specs.Reports.{FindingFacts, CauseFacts, GrowthFacts, ReportFacts}
use Rattle.report.specs.explained.Told.{RunFacts}
use Rattle.report.specs.json_form.About.{ShownFacts}
use Rattle.report.specs.json_form.Runs.{RunsFacts}
use Rattle.report.specs.declared.json_form.runs.ShownRun.{ShownRun}

-- What is known of the run of each scenario under each stream number.
abbrev pub Telling : Type 0
Telling = ℕ → Entries → Option RunFacts

-- A run has lines for at most this many hits and, below, at most this many causes are shown with their runs.
abbrev pub most_hits_shown : ℕ
most_hits_shown = 1000

abbrev pub most_causes_shown : ℕ
most_causes_shown = 100

-- The scenario of the plan that a plan grew from, which has all of its faults except the last. A plan of one fault grew from the run without faults,
-- which is shown by itself, so there is none for it.
abbrev pub parent_of : List (List ℕ) → List Rig → Option Entries
parent_of points [] = None
parent_of points (last ∷ []) = None
parent_of points (last ∷ (r ∷ earlier)) = Some (grown_scenario points (r ∷ earlier))

-- The same for the plan of this number, if it is one of those that grew.
abbrev pub parent_at : List (List ℕ) → List (List Rig) → ℕ → Option Entries
parent_at points grown number = parent_of points (slice_index_or grown number [])

abbrev pub told_of : (Entries → Option RunFacts) → Option Entries → Option RunFacts
told_of tell None = None
told_of tell (Some scenario) = tell scenario

abbrev pub beside : Option RunFacts → Option RunFacts → Option ShownRun
beside parent None = None
beside parent (Some run) = Some (record { run = run; parent = parent })

-- The run of a scenario, if it is known, and beside it the run of the plan that the plan of this number grew from. Both are run under this number,
-- though the run of a plan that grew doesn't depend on it.
abbrev pub run_shown : List (List ℕ) → Telling → List (List Rig) → ℕ → Entries → Option ShownRun
run_shown points tell grown number scenario = beside (told_of (tell number) (parent_at points grown number)) (tell number scenario)

-- The run of a first failure's reduced scenario and, below, of a cause.
abbrev pub finding_shown : List (List ℕ) → Telling → List (List Rig) → FindingFacts → Option ShownRun
finding_shown points tell grown finding = run_shown points tell grown finding.number finding.reduced

abbrev pub cause_shown : List (List ℕ) → Telling → List (List Rig) → CauseFacts → Option ShownRun
cause_shown points tell grown cause = run_shown points tell grown cause.number cause.scenario

abbrev pub causes_shown : List (List ℕ) → Telling → List (List Rig) → Option GrowthFacts → List (Option ShownRun)
causes_shown points tell grown None = []
causes_shown points tell grown (Some growth) = map (cause_shown points tell grown) (take most_causes_shown growth.causes)

abbrev pub runs_shown : List (List ℕ) → Telling → ReportFacts → List (List Rig) → RunsFacts
runs_shown points tell report grown = record {
  clean = tell 0 [];
  findings = map (finding_shown points tell grown) report.findings;
  causes = causes_shown points tell grown report.growth;
}

-- The plans that grew come first among the plans.
abbrev pub GrownAreFirst : List (List ℕ) → ShownFacts → Type 0
GrownAreFirst points shown = take (length shown.grown) shown.plans ≡ grown_scenarios points shown.grown
