-- The verdicts of scenarios, by recorded runs.
use Rattle.std.specs.Prelude.{◌≡◌, ℕ, List, Option, None, Some, if◌then◌else◌}
use Rattle.scenario_values.specs.Scenario.{Entries, IsScenario}
use Rattle.action_eval.specs.Answers.{given_of}
use Rattle.action_eval.specs.declared.rig.Rig.{Rig}
use Rattle.target_trait.specs.Outcomes.{outcome}
use Rattle.target_trait.specs.declared.judgement.Verdict.{Verdict}
use Rattle.grown_plans.specs.GrownPlans.{Subject}
use Rattle.answer_text.specs.Runs.{KnownRuns}
use Rattle.answer_text.specs.declared.runs.ToldRun.{ToldRun}
use Rattle.grown_runs.specs.known.Known.{KnownRuns as PlanRuns}
use Rattle.grown_runs.specs.known.Walks.{verdict_walked}
use Rattle.answered_runs.specs.Agreement.{is_certain}
use Rattle.answered_runs.specs.Answered.{plan_runs}
use Rattle.answered_runs.specs.Rigged.{rigs_of_scenario}

-- The verdict that rigged hits come to.
abbrev pub walked_by : PlanRuns → ℕ → Option (List Rig) → Option Verdict
walked_by runs depth None = None
walked_by runs depth (Some rigs) = verdict_walked runs rigs depth

-- The recorded verdict of a scenario, or else the one that its rigged hits come to.
abbrev pub told_or : Option Verdict → Option ToldRun → Option Verdict
told_or walked None = walked
told_or walked (Some r) = Some r.verdict

-- The recorded run of a scenario in which nothing is drawn. Of any other one run says nothing.
abbrev pub certain_run : KnownRuns → Entries → Option ToldRun
certain_run known s = if is_certain s then known s else None

abbrev pub verdict_by : List (List ℕ) → KnownRuns → ℕ → Entries → Option Verdict
verdict_by points known depth s = told_or (walked_by (plan_runs points known) depth (rigs_of_scenario points s)) (certain_run known s)

-- Each known verdict is the component's, under whatever seed and stream number.
abbrev pub AreVerdictsOf : Subject → (Entries → Option Verdict) → Type 0
AreVerdictsOf t known =
    (s : Entries) (v : Verdict) → IsScenario s → known s ≡ Some v
    → (seed stream : ℕ) → (outcome t.asks (given_of s t.names seed stream t.limit)).verdict ≡ v
