use Rattle.grown_plans.specs.GrownPlans.{kinds_at}
use Rattle.grown_runs.proofs.KnownLemmas.Kept.{over_step}
use Rattle.grown_runs.proofs.known.growing.children_from.Goals as goal

pub loop-number-preserved : goal.loop-number-preserved
loop-number-preserved g c =
    let looked = c.args.looked.now in
    over_step (kinds_at looked.kinds.now) (g.T.RunTable.known looked.table.now) looked.plans.now c.args.first c.loop-number.number c.loop-number.children.items c.add_children_of.new.children.items c.loop-number.auto.number c.loop-number.invariant
    c.in_ok-add_children_of.ensures.children
