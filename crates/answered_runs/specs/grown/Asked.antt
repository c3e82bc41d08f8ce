-- What is still to be tried in a campaign with a depth, by answers.
use Rattle.std.specs.Prelude.{◌≡◌, ◌≢◌, ℕ, List, ◌++◌, is_none, map}
use Rattle.std.specs.List.{filter}
use Rattle.scenario_values.specs.Scenario.{Entries}
use Rattle.scenario_values.specs.Tidied.{tidied}
use Rattle.action_eval.specs.declared.rig.Rig.{Rig}
use Rattle.plan_gen.specs.PlanList.{Asked}
use Rattle.grown_plans.specs.numbered.GrownScenarios.{grown_scenario}
use Rattle.grown_plans.specs.GrownPlans.{Subject}
use Rattle.grown_plans.specs.Promises.{EachTwo}
use Rattle.grown_runs.specs.known.Known.{KnownRuns}
use Rattle.grown_runs.specs.known.KnownPart.{to_run}
use Rattle.report.specs.ReportText.{scenario_text}
use Rattle.answered_runs.specs.asked.Lines.{lines_behind}
use Rattle.answer_text.specs.Runs.{told_in}
use Rattle.answered_runs.specs.Answered.{Answered, known_plans, runs_in}
use Rattle.answered_runs.specs.Verdicts.{verdict_by}
use Rattle.answered_runs.specs.grown.Further.{clean_run, further_known, further_told}

-- The scenarios of those of these plans whose runs aren't recorded.
abbrev pub unrun : Answered → List (List Rig) → List Entries
unrun a plans = map (λ plan. tidied (grown_scenario a.points plan)) (filter (λ plan. is_none (runs_in a plan)) plans)

-- The ones of these scenarios whose verdict neither is recorded nor follows from recorded runs.
abbrev pub undecided : Answered → ℕ → List Entries → List Entries
undecided a depth scenarios = map tidied (filter (λ s. is_none (verdict_by a.points (told_in a.book) depth (tidied s))) scenarios)

-- What is to be tried: first the known plans whose runs aren't recorded, and then the undecided storms and listed scenarios.
abbrev pub to_try : Answered → ℕ → Asked → List Entries
to_try a depth asked = unrun a (known_plans a depth) ++ undecided a depth (further_told a asked)

-- The line that asks for a plan.
abbrev pub plan_line : List (List ℕ) → List Rig → List ℕ
plan_line points plan = scenario_text (tidied (grown_scenario points plan))

-- A line for each known plan of a component's list to a depth that is still to be run, in the order of the list.
abbrev pub lines_to_run : Subject → ℕ → KnownRuns → List (List ℕ)
lines_to_run t depth runs = map (plan_line t.names) (to_run t depth runs)

-- No line comes twice.
abbrev pub AreApart : List (List ℕ) → Type 0
AreApart lines = EachTwo (λ line other. line ≢ other) lines

-- What is asked of a component: these lines, each once, and then those of its undecided storms and listed scenarios.
pub record IsAskedOf (t : Subject) (a : Answered) (depth : ℕ) (asked : Asked) (lines : List (List ℕ)) : Type 0 where
  pub plans : AreApart (lines_to_run t depth (runs_in a))
  pub whole : lines ≡ lines_behind (lines_to_run t depth (runs_in a)) (undecided a depth (further_known t asked (clean_run a)))
