-- When some component agrees with answers.
use Rattle.std.specs.Prelude.{◌≡◌, ℕ, List}
use Rattle.std.specs.List.{AllByRecursion}
use Rattle.action_eval.specs.Catalogue.{IsCatalogue}
use Rattle.answer_text.specs.Runs.{known_runs, told_in}
use Rattle.grown_plans.specs.GrownPlans.{Subject}
use Rattle.grown_runs.specs.known.Known.{Agrees}
use Rattle.answered_runs.specs.Answered.{Answered, CanBeListed, runs_in}
use Rattle.answered_runs.specs.Components.{AgreesWithRuns, IsComponent}

-- The answers are what is read of a text, for a component with these points and kinds of faults. `names` are those of its codes.
pub record WereRead (a : Answered) : Type 0 where
  pub points : IsCatalogue a.points
  pub listed : AllByRecursion CanBeListed a.listed
  pub names : List (List ℕ)
  pub text : List ℕ
  pub read : told_in a.book ≡ known_runs names a.points text

-- A component agrees with the answers, and so with what they record of the runs of plans.
pub record HasComponent (a : Answered) (depth : ℕ) : Type 0 where
  pub component : Subject
  pub is : IsComponent a.points a.listed component
  pub agrees : AgreesWithRuns component (told_in a.book)
  pub plans : Agrees component depth (runs_in a)
