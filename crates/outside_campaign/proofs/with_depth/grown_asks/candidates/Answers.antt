use Rattle.outside_campaign.proofs.WithDepthLemmas.Told.{listed_all}
use Rattle.outside_campaign.proofs.WithDepthLemmas.Asking.{none_asked, requests_asked}
use Rattle.outside_campaign.proofs.with_depth.grown_asks.candidates.Goals as goal

pub returns-in-Told-clause-lines : goal.returns-in-Told-clause-lines
returns-in-Told-clause-lines c =
    let k = c.args.known.now in
    let asked = c.args.settings.now.plans in
    none_asked k.answered k.depth asked c.all_plans-plans.result k.list.plans c.in-Told.field-0 c.new.result (rw c.in-Told.is at c.in_ok-outcome_known.ensures)
    (listed_all k c.plan_settings.result asked c.in_ok-further.further c.all_plans-plans.result c.plan_settings.ensures.asked c.list.ensures.known.plans c.in_ok-further.ensures.further c.all_plans-plans.ensures)
    c.list.ensures.known.plans c.new.ensures

pub returns-clause-lines : goal.returns-clause-lines
returns-clause-lines c =
    let k = c.args.known.now in
    let asked = c.args.settings.now.plans in
    let h = rw c.in-Open.is at c.in_ok-outcome_known.ensures in
    requests_asked k.answered k.depth asked c.all_plans-plans.result k.list.plans c.in-Open.requests.items c.as_slice-in-Open.result.now c.in_ok-of-in-Open.field-0 h.1
    (listed_all k c.plan_settings.result asked c.in_ok-further.further c.all_plans-plans.result c.plan_settings.ensures.asked c.list.ensures.known.plans c.in_ok-further.ensures.further c.all_plans-plans.ensures)
    c.list.ensures.known.plans c.as_slice-in-Open.ensures.value c.in_ok-of-in-Open.ensures
