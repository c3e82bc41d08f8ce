-- Recorded runs of plans, and which subjects agree with them.
use Rattle.std.specs.Prelude.{◌≡◌, ℕ, List, Option, None, Some, IfSome, map}
use Rattle.std.specs.List.{AllByRecursion}
use Rattle.action_eval.specs.declared.rig.Rig.{Rig}
use Rattle.target_trait.specs.declared.judgement.Verdict.{Verdict}
use Rattle.grown_plans.specs.Runs.{Met}
use Rattle.grown_plans.specs.GrownPlans.{Subject, run_of_plan, grown}
use Rattle.grown_plans.specs.Promises.{verdict_of_plan}

-- What is recorded of a run: its verdict, and the points of its hits in order, if these are known.
pub record Told : Type 0 where
  pub verdict : Verdict
  pub hits : Option (List ℕ)

-- The recorded run of each plan, if there is one.
abbrev pub KnownRuns : Type 0
KnownRuns = List Rig → Option Told

abbrev pub hits_told : Option Told → Option (List ℕ)
hits_told None = None
hits_told (Some told) = told.hits

-- The points of the hits of a plan's run, if they are known.
abbrev pub hits_of : KnownRuns → List Rig → Option (List ℕ)
hits_of known plan = hits_told (known plan)

-- The points of a run's hits, in order.
abbrev pub points_met : List Met → List ℕ
points_met ms = map (λ m. m.site.point) ms

-- What is recorded of a plan is true of a subject, under whatever seed and stream number the plan is run.
pub record IsTrueOf (t : Subject) (plan : List Rig) (told : Told) : Type 0 where
  pub verdict : (seed stream : ℕ) → verdict_of_plan t seed stream plan ≡ told.verdict
  pub hits : IfSome told.hits (λ points. points_met (run_of_plan t plan) ≡ points)

-- A subject agrees with recorded runs: each run that is recorded for a plan of its list to a depth is true of it.
abbrev pub Agrees : Subject → ℕ → KnownRuns → Type 0
Agrees t d known = AllByRecursion (λ plan. IfSome (known plan) (IsTrueOf t plan)) (grown t d)
