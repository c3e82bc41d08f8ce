use Rattle.std.proofs.Common.{◌≡◌, ◌-◌, ◌≤◌, length}
use Rattle.grown_plans.specs.GrownPlans.{level}
use Rattle.grown_plans.specs.Lists.{AreLevels}
use Rattle.grown_runs.specs.Grown.{subject_in, begun, begun_from}
use Rattle.grown_runs.specs.inside.Growths.{AreTold}
use Rattle.grown_runs.proofs.levels.grow_levels.Given as goal

abbrev pub invariant-loop-number : goal.invariant-loop-number
invariant-loop-number g l =
    let t = subject_in g.T.Target l.on in
    record {
      are : AreLevels (level t) l.number l.levels;
      few : length l.levels.plans ≤ l.on.limits.most_plans;
      so_far : begun t l.on.limits.depth l.count ≡ begun_from t l.count l.number (l.on.limits.depth - l.number);
      told : AreTold t l.on.limits.seed l.fn.purpose l.levels.plans 0 l.levels.last l.outcomes;
    }
