-- An example: answers that record a run which somebody ended, with its hits, and a component that agrees with them.
use Rattle.std.specs.Prelude.{ℕ, List, [], ◌∷◌, Some, None, codes}
use Rattle.scenario_values.specs.Printed.{printed}
use Rattle.scenario_values.specs.Scenario.{Entries}
use Rattle.scenario_values.specs.declared.term.Task.TheVariants.{Return}
use Rattle.action_eval.specs.Answers.{Reply, Go}
use Rattle.action_eval.specs.RiggedScenario.{entry, full}
use Rattle.target_trait.specs.declared.judgement.Judgement.TheVariants.{Kept}
use Rattle.target_trait.specs.declared.judgement.Verdict.TheVariants.{Pass, Unresolved}
use Rattle.target_trait.specs.Play.{Move, Ask, Done, Unknown}
use Rattle.answer_text.specs.Hits.{stretch}
use Rattle.answer_text.specs.Runs.{KnownRuns, first_told, run_line}
use Rattle.answer_text.specs.declared.runs.RunLine.{RunLine}
use Rattle.grown_plans.specs.GrownPlans.{Subject}
use Rattle.answered_runs.specs.Answered.{kinds_over}

abbrev pub two_points : List (List ℕ)
two_points = codes "a" ∷ codes "b" ∷ []

-- The scenario `a=1*return`.
abbrev pub one_return : Entries
one_return = entry (codes "a") (full (Some 1) (Return None) ∷ [])

-- The answers `pass none a;b` and `unresolved a=1*return a`. With the fault, the run was ended before its second hit.
abbrev pub ended_lines : List RunLine
ended_lines = run_line [] Pass (Some (stretch 0 1 ∷ (stretch 1 1 ∷ []))) ∷ (run_line one_return Unresolved (Some (stretch 0 1 ∷ [])) ∷ [])

abbrev pub ended_told : KnownRuns
ended_told s = first_told 1 ended_lines (printed s)

-- The component hits both points and keeps its promise. If its first hit isn't answered to go on, nobody knows what it comes to.
abbrev pub ended_asks : List Reply → Move
ended_asks [] = Ask 0
ended_asks (Go ∷ []) = Ask 1
ended_asks (Go ∷ (second ∷ later)) = Done Kept
ended_asks (first ∷ later) = Unknown

abbrev pub ended_component : Subject
ended_component = record { asks = ended_asks; names = two_points; limit = 2; kinds = kinds_over two_points [] }
