-- What is known of scenarios by recorded runs, and what agrees with it.
use Rattle.std.specs.Prelude.{◌≡◌, ◌↔◌, ℕ, ◌==◌, false, List, Option, Some, option_map, Contains}
use Rattle.std.specs.List.{AllByRecursion, slice_split}
use Rattle.scenario_values.specs.Scenario.{Entries, IsScenario}
use Rattle.target_trait.specs.declared.judgement.Verdict.{Verdict}
use Rattle.answer_text.specs.declared.hits.Stretch.{Stretch}
use Rattle.answer_text.specs.declared.runs.RunLine.{RunLine}
use Rattle.answer_text.specs.Answers.{SpellsRun}
use Rattle.answer_text.specs.Runs.{KnownRuns, known_answers, run_line}

-- ---- runs

-- A run of a component: its verdict, and its hits if they are known.
abbrev pub Ran : Type 0
Ran = Verdict × Option (List Stretch)

-- The recorded run of a tidied scenario, if there is one.
abbrev pub ran_in : KnownRuns → Entries → Option Ran
ran_in known s = option_map (λ told. (told.verdict, told.hits)) (known s)

-- Exactly these runs are known.
abbrev pub Knows : KnownRuns → List RunLine → Type 0
Knows known runs = (s : Entries) → IsScenario s → (ran : Ran) → (ran_in known s ≡ Some ran) ↔ Contains runs (run_line s ran.0 ran.1)

-- A function from tidied scenarios to runs agrees with a line if the scenario has the run that the line spells; and with a text if it agrees with
-- each of its lines.
abbrev pub TellsLine : List (List ℕ) → List (List ℕ) → (Entries → Ran) → List ℕ → Type 0
TellsLine names points ran_of line = (run : RunLine) → SpellsRun false names points line run → ran_of run.scenario ≡ (run.verdict, run.hits)

abbrev pub TellsText : List (List ℕ) → List (List ℕ) → List ℕ → (Entries → Ran) → Type 0
TellsText names points text ran_of = AllByRecursion (TellsLine names points ran_of) (slice_split (λ b. b == 10) text)

-- ---- verdicts

-- The verdict of each tidied scenario, if it is known.
abbrev pub KnownVerdicts : Type 0
KnownVerdicts = Entries → Option Verdict

abbrev pub verdicts_in : KnownRuns → KnownVerdicts
verdicts_in known s = option_map (λ told. told.verdict) (known s)

-- The verdicts that a text records. Its lines may have hits.
abbrev pub known_by : List (List ℕ) → List (List ℕ) → List ℕ → KnownVerdicts
known_by names points text = verdicts_in (known_answers names points text)

-- A function from tidied scenarios to verdicts agrees with what is known.
abbrev pub Agrees : (Entries → Verdict) → KnownVerdicts → Type 0
Agrees verdict_of known = (s : Entries) (v : Verdict) → IsScenario s → known s ≡ Some v → verdict_of s ≡ v

-- It agrees with a line: if the line spells a run, the scenario has its verdict.
abbrev pub AgreesWithLine : List (List ℕ) → List (List ℕ) → (Entries → Verdict) → List ℕ → Type 0
AgreesWithLine names points verdict_of line = (run : RunLine) → SpellsRun false names points line run → verdict_of run.scenario ≡ run.verdict

-- It agrees with each line of a text.
abbrev pub AgreesWithText : List (List ℕ) → List (List ℕ) → List ℕ → (Entries → Verdict) → Type 0
AgreesWithText names points text verdict_of = AllByRecursion (AgreesWithLine names points verdict_of) (slice_split (λ b. b == 10) text)
