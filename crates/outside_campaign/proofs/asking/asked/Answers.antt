use Rattle.outside_campaign.specs.Asked.{open_plans}
use Rattle.outside_campaign.proofs.Lines.{both_added, from_nothing}
use Rattle.outside_campaign.proofs.asking.asked.Goals as goal

pub returns : goal.returns
returns g c =
    both_added c.args.requests.now (open_plans (g.K.VerdictTable.verdicts c.args.known.now) c.args.plans.now) c.add_requests.new.lines c.add_plans.new.lines
    (from_nothing c.args.requests.now c.new-lines.result c.add_requests.new.lines c.new-lines.ensures c.in_ok-add_requests.ensures) c.in_ok-add_plans.ensures
