use Rattle.std.proofs.Common.{refl, subst}
use Rattle.grown_plans.specs.Promises.{IsLawful}
use Rattle.campaign_core.specs.Headline.{Campaign, campaign_in, grower}
use Rattle.std.specs.Option.{option_copied}
use Rattle.campaign_core.specs.Planned.{AreGrown}
use Rattle.campaign_core.proofs.Begun.{sites_few, behind_some}
use Rattle.campaign_core.proofs.planned.end_list.Goals as goal

pub further_plans-requires-clause-sites : goal.further_plans-requires-clause-sites
further_plans-requires-clause-sites g c =
    let k : Campaign = campaign_in g.T.Target c.args.subject.now in
    let lawful : IsLawful (grower k) = c.each_target_is_a_lawful_subject.ensures c.args.subject.now.target.now c.args.subject.now.workload.now k.given.max_hits in
    sites_few k k.given.depth c.in-Some.grown.now (subst (λ o. AreGrown k k.given.depth (option_copied o)) c.in-Some.is c.requires) refl lawful c.in-Ok.census.counts.items c.in-Ok.ensures.census

pub returns-clause-some : goal.returns-clause-some
returns-clause-some g c =
    let k : Campaign = campaign_in g.T.Target c.args.subject.now in
    behind_some k k.given.depth c.in-Some.grown.now (subst (λ o. AreGrown k k.given.depth (option_copied o)) c.in-Some.is c.requires)
