-- The list of the plans that are known by answers.
use Rattle.std.proofs.Common.{◌≡◌, ◌≤◌, ℕ, Result, Ok, Err, length}
use Rattle.std.specs.Prelude.{IfOk}
use Rattle.std.specs.List.{AllByRecursion}
use Rattle.action_eval.specs.RiggedScenario.{CanBeRigged}
use Rattle.grown_plans.specs.GrownPlans.{Subject, rigs_of}
use Rattle.grown_runs.specs.declared.known.growing.ToldList.{ToldList}
use Rattle.answer_text.specs.declared.runs.ToldRun.{ToldRun}
use Rattle.grown_runs.specs.known.KnownPlans.{AreKnown}
use Rattle.answer_text.specs.Runs.{told_in}
use Rattle.answered_runs.specs.Answered.{Answered, known_plans, runs_in}
use Rattle.answered_runs.specs.Components.{AgreesWithRuns, IsComponent}
use Rattle.answered_runs.specs.KnownLists.{IsKnownList}

pub known_list : {E : Type 0} (a : Answered) (depth : ℕ) (r : Result (ToldList ToldRun) E) → IfOk r (λ k. k.list.plans ≡ known_plans a depth)
    → IfOk r (λ k. (t : Subject) → IsComponent a.points a.listed t → AgreesWithRuns t (told_in a.book) → AreKnown t depth (runs_in a) k.list)
    → IfOk r (λ k. AllByRecursion (λ plan. length plan ≤ depth) k.list.plans) → IfOk r (λ k. AllByRecursion (λ plan. CanBeRigged (rigs_of plan)) k.list.plans) → IfOk r (λ k. IsKnownList a depth k.list)
known_list a depth (Ok k) plans known short rigs = record { plans = plans; known = known; short = short; rigs = rigs }
known_list a depth (Err e) plans known short rigs = tt
