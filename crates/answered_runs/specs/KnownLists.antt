-- The list of the plans that answers make known.
use Rattle.std.specs.Prelude.{◌≡◌, ℕ, ◌≤◌, List, Option, length, option_map}
use Rattle.std.specs.List.{AllByRecursion}
use Rattle.action_eval.specs.declared.rig.Rig.{Rig}
use Rattle.action_eval.specs.RiggedScenario.{CanBeRigged}
use Rattle.target_trait.specs.declared.judgement.Verdict.{Verdict}
use Rattle.grown_plans.specs.GrownPlans.{Subject, rigs_of}
use Rattle.grown_plans.specs.declared.grown_list.GrownList.{GrownList}
use Rattle.grown_runs.specs.known.Known.{KnownRuns}
use Rattle.grown_runs.specs.known.KnownPlans.{AreKnown}
use Rattle.answer_text.specs.Runs.{told_in}
use Rattle.answered_runs.specs.Answered.{Answered, known_plans, runs_in}
use Rattle.answered_runs.specs.Components.{AgreesWithRuns, IsComponent}

-- The answers, the depth, and the list of plans.
pub record KnownList : Type 0 where
  pub answered : Answered
  pub depth : ℕ
  pub list : GrownList

abbrev pub known_list : Answered → ℕ → GrownList → KnownList
known_list a depth list = record { answered = a; depth = depth; list = list }

-- For every component that agrees with the answers, this is the known part of its list, with the known size of each level and of the one after the
-- last. A scenario can be made of each of its plans.
pub record IsKnownList (a : Answered) (depth : ℕ) (k : GrownList) : Type 0 where
  pub plans : k.plans ≡ known_plans a depth
  pub known : (t : Subject) → IsComponent a.points a.listed t → AgreesWithRuns t (told_in a.book) → AreKnown t depth (runs_in a) k
  pub short : AllByRecursion (λ plan. length plan ≤ depth) k.plans
  pub rigs : AllByRecursion (λ plan. CanBeRigged (rigs_of plan)) k.plans

-- The verdict of a plan's run, if it is recorded.
abbrev pub verdict_told : KnownRuns → List Rig → Option Verdict
verdict_told runs plan = option_map (λ told. told.verdict) (runs plan)
