use Rattle.std.proofs.lemmas.Result.{IfOk-weaker}
use Rattle.outside_campaign.proofs.WithDepthLemmas.Asking.{none_to_try, others_asked}
use Rattle.outside_campaign.proofs.with_depth.grown_asks.grown_lines.Goals as goal

pub returns-clause-lines : goal.returns-clause-lines
returns-clause-lines c =
    let k = c.args.known.now in
    let asked = c.args.settings.now.plans in
    IfOk-weaker c.candidates.result _ _
    (λ lines h. others_asked k.answered k.depth asked lines
    (none_to_try k.answered k.depth asked c.plan_settings.result c.in_ok-plans.plans c.plan_settings.ensures.asked c.in_ok-plans.ensures.lines (c.is_empty.ensures.0 c.if-not-is_empty.false)) h)
    c.candidates.ensures.lines
