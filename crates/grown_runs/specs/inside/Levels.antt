-- Levels of which all but the last one have run. Private contracts cite it.
use Rattle.std.specs.Prelude.{◌≡◌, ◌⊎◌, ℕ, ◌-◌, ◌≤◌, length}
use Rattle.grown_plans.specs.GrownPlans.{Subject, level}
use Rattle.grown_plans.specs.Lists.{AreLevels}
use Rattle.grown_plans.specs.declared.grown_list.GrownLevels.{GrownLevels}
use Rattle.grown_runs.specs.declared.input.Purpose.{Purpose}
use Rattle.grown_runs.specs.declared.outcomes.Outcomes.{Outcomes}
use Rattle.grown_runs.specs.Grown.{begun, begun_from}
use Rattle.grown_runs.specs.inside.Growths.{AreTold}

-- Levels to a depth, or until they have at least `count` plans. The plans of all but the last level have run.
pub record HaveBegun (t : Subject) (seed : ℕ) (purpose : Purpose) (depth count : ℕ) (l : GrownLevels) (o : Outcomes) : Type 0 where
  pub top : ℕ
  pub within : top ≤ depth
  pub so_far : begun t depth count ≡ begun_from t count top (depth - top)
  pub enough : (top ≡ depth) ⊎ (count ≤ length l.plans)
  pub are : AreLevels (level t) top l
  pub told : AreTold t seed purpose l.plans 0 l.last o
