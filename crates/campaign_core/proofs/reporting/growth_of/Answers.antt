use Rattle.std.proofs.Common.{subst}
use Rattle.campaign_core.specs.Headline.{campaign_in}
use Rattle.campaign_core.specs.Planned.{IsGrownTo}
use Rattle.campaign_core.proofs.Grown.{causes_of_plans}
use Rattle.campaign_core.proofs.reporting.growth_of.Goals as goal

pub causes_of-requires : goal.causes_of-requires
causes_of-requires g c =
    let k = campaign_in g.T.Target c.args.subject.now in
    causes_of_plans k k.given.depth c.in-Some-grown.grown c.args.all.now c.as_slice.result.now
    (subst (λ o. IsGrownTo k k.given.depth o) c.in-Some-grown.is c.requires.planned.grown) c.as_slice.ensures.value c.requires.plans
