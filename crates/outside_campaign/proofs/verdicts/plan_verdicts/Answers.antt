use Rattle.std.proofs.Common.{◌<◌, length, arith}
use Rattle.outside_campaign.proofs.Lines.{looked_up}
use Rattle.outside_campaign.proofs.verdicts.plan_verdicts.Goals as goal

pub loop-number-preserved : goal.loop-number-preserved
loop-number-preserved g c =
    let less : c.loop-number.number < length c.args.plans.now = omega (arith, c.loop-number-test.true, c.len-number-end.ensures.many) in
    looked_up (g.K.VerdictTable.verdicts c.args.known.now) c.args.plans.now c.loop-number.number c.plan.result c.in_ok-scenario.scenario c.in_ok-verdict.verdict c.loop-number.verdicts.items c.push.new.self.items less c.plan.ensures
    c.in_ok-scenario.ensures c.entries.ensures.limits c.in_ok-verdict.ensures c.in_ok-push.ensures.items c.loop-number.invariant
