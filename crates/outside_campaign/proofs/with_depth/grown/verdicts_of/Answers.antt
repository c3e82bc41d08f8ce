use Rattle.std.proofs.Common.{◌<◌, [], arith, get_or, length, refl}
use Rattle.outside_campaign.proofs.Lines.{looked_up, looked_up_all}
use Rattle.outside_campaign.specs.with_depth.Grown.{known}
use Rattle.outside_campaign.proofs.with_depth.grown.verdicts_of.Goals as goal

pub loop-number-preserved : goal.loop-number-preserved
loop-number-preserved c =
    let k = c.args.known.now in
    let plans = c.args.plans.now in
    let n = c.loop-number.number in
    let less : n < length plans = omega (arith, c.loop-number-test.true, c.len-number-end.ensures.many) in
    looked_up (known k.answered k.depth) plans n (get_or plans n []) (get_or plans n []) c.in_ok-verdict.verdict c.loop-number.verdicts.items c.push.new.self.items less refl refl c.in_ok-verdict.ensures.lawful c.in_ok-verdict.ensures.verdict
    c.in_ok-push.ensures.items c.loop-number.invariant

pub returns-clause-verdicts : goal.returns-clause-verdicts
returns-clause-verdicts c =
    let k = c.args.known.now in
    (looked_up_all (known k.answered k.depth) c.args.plans.now c.loop-number.number c.loop-number.verdicts.items (omega (arith, c.loop-number-test.false, c.len-number-end.ensures.many)) c.loop-number.invariant).0

pub returns-clause-lawful : goal.returns-clause-lawful
returns-clause-lawful c =
    let k = c.args.known.now in
    (looked_up_all (known k.answered k.depth) c.args.plans.now c.loop-number.number c.loop-number.verdicts.items (omega (arith, c.loop-number-test.false, c.len-number-end.ensures.many)) c.loop-number.invariant).1
