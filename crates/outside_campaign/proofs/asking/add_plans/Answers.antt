use Rattle.std.proofs.Common.{◌<◌, length, arith}
use Rattle.outside_campaign.proofs.Lines.{plan_added}
use Rattle.outside_campaign.proofs.asking.add_plans.Goals as goal

pub loop-number-preserved : goal.loop-number-preserved
loop-number-preserved g c =
    let less : c.loop-number.number < length c.args.plans.now = omega (arith, c.loop-number-test.true, c.len-number-end.ensures.many) in
    plan_added (g.K.VerdictTable.verdicts c.args.known.now) c.args.lines.now c.loop-number.lines c.add_plan.new.lines c.args.plans.now c.loop-number.number c.plan.result less c.plan.ensures c.loop-number.invariant c.in_ok-add_plan.ensures
