use Rattle.std.proofs.Common.{◌≡◌, ◌-◌}
use Rattle.grown_plans.specs.GrownPlans.{kinds_at}
use Rattle.grown_runs.specs.known.inside.Grown.{kept_over}
use Rattle.grown_runs.proofs.known.growing.children_from.Given as goal

abbrev pub invariant-loop-number : goal.invariant-loop-number
invariant-loop-number g l = l.children.items ≡ kept_over (kinds_at l.looked.kinds.now) (g.T.RunTable.known l.looked.table.now) l.looked.plans.now l.first (l.number - l.first)
