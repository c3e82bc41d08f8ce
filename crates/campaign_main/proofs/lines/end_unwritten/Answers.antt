use Rattle.std.proofs.Common.{subst, sym}
use Rattle.campaign_core.specs.declared.ending.CampaignFault.{CampaignFault}
use Rattle.campaign_main.specs.declared.fault.CommandFault.TheVariants.{Campaign}
use Rattle.campaign_main.specs.Ends.{IsEndOf}
use Rattle.campaign_core.specs.Writes.{change}
use Rattle.campaign_main.proofs.lines.end_unwritten.Goals as goal

pub returns-in-TooManyPlans : goal.returns-in-TooManyPlans
returns-in-TooManyPlans g c =
    let E = g.E.Sink in
    let new = c.refused.new.faults in
    let P : CampaignFault → Type 0 = λ f. IsEndOf (Campaign f) c.refused.result (change E c.args.faults.now new) in
    subst P (sym c.in-TooManyPlans.is) (c.refused.ensures.end, c.refused.ensures.told)
