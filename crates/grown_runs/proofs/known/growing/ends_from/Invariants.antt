use Rattle.std.proofs.Common.{◌≡◌, ◌-◌, map, length}
use Rattle.grown_plans.specs.GrownPlans.{kinds_at}
use Rattle.grown_plans.specs.Kept.{GrewFrom, plan_of}
use Rattle.grown_runs.specs.known.inside.Grown.{kept_over, onward_over}
use Rattle.grown_runs.proofs.known.growing.ends_from.Given as goal

abbrev pub invariant-loop-number : goal.invariant-loop-number
invariant-loop-number g l = record {
  plans : map (plan_of l.looked.plans.now) l.onward.items ≡ onward_over (g.T.RunTable.known l.looked.table.now) l.looked.plans.now l.first (l.number - l.first);
  parents : GrewFrom (length l.looked.plans.now) l.onward.items;
  beyond : l.beyond ≡ length (kept_over (kinds_at l.looked.kinds.now) (g.T.RunTable.known l.looked.table.now) l.looked.plans.now l.first (l.number - l.first));
}
