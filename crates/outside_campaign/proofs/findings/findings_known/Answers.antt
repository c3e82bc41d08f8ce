use Rattle.std.proofs.Common.{◌∙◌}
use Rattle.outside_campaign.proofs.Gathered.{gathers}
use Rattle.outside_campaign.proofs.findings.findings_known.Goals as goal

pub loop-i-preserved : goal.loop-i-preserved
loop-i-preserved g c =
    gathers (g.K.VerdictTable.verdicts c.args.known.now) c.args.plans.now c.args.failures.now c.loop-i.i (0, 0) c.in_ok-scenario.scenario c.loop-i.findings.items c.gather.new.findings.items c.loop-i.requests.items c.gather.new.requests.items c.in_ok-look.look
    c.loop-i-test.true
    (c.in_ok-scenario.ensures ∙ c.plan.ensures)
    c.loop-i.invariant c.in_ok-look.ensures c.in_ok-gather.ensures
