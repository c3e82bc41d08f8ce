use Rattle.std.proofs.Common.{subst}
use Rattle.campaign_core.specs.Headline.{campaign_in}
use Rattle.campaign_core.specs.Planned.{IsGrownTo}
use Rattle.campaign_core.proofs.Grown.{plans_known}
use Rattle.campaign_core.proofs.planned.known_of.Goals as goal

pub returns-in-Some-clause-known : goal.returns-in-Some-clause-known
returns-in-Some-clause-known g c =
    let k = campaign_in g.T.Target c.args.subject.now in
    plans_known k k.given.depth c.in-Some.grown c.as_slice.result.now (subst (λ o. IsGrownTo k k.given.depth o) c.in-Some.is c.requires.grown) c.as_slice.ensures.value
