use Rattle.std.proofs.Common.{None}
use Rattle.outside_campaign.proofs.Lines.{open_at, told_more, verdicts_all}
use Rattle.outside_campaign.proofs.verdicts.verdicts_known.Goals as goal

pub loop-i-preserved : goal.loop-i-preserved
loop-i-preserved c =
    told_more c.args.verdicts.now c.loop-i.i None c.loop-i.all.items c.push.new.self.items c.in-Some.verdict c.loop-i-test.true c.in_ok-push.ensures.items c.loop-i.invariant c.in-Some.is

pub returns-in_default : goal.returns-in_default
returns-in_default c = λ known is.
    open_at known c.args.plans.now c.args.verdicts.now c.loop-i.all.items c.loop-i.i None c.plan.result c.in_ok-scenario.scenario c.in_ok-tidy.field-0 c.loop-i-test.true c.requires.many is
    c.loop-i.invariant c.in_default.is c.plan.ensures c.in_ok-scenario.ensures c.in_ok-tidy.ensures

pub returns : goal.returns
returns c = λ known is. verdicts_all known c.args.plans.now c.loop-i.i c.args.verdicts.now c.loop-i.all.items c.loop-i-test.false c.loop-i.invariant is c.requires.lawful
