use Rattle.std.proofs.Common.{refl}
use Rattle.campaign_core.specs.Headline.{Campaign, campaign_in, plans, say}
use Rattle.campaign_core.proofs.Firsts.{first_is}
use Rattle.campaign_core.proofs.running.write_campaign.Goals as goal

pub returns-clause-first : goal.returns-clause-first
returns-clause-first g c =
    let k : Campaign = campaign_in g.T.Target c.args.subject.now in
    first_is (say k) (plans k) (plans k) c.args.ran.now.results.firsts.items c.ending.result.first c.ending.ensures c.requires.ran.results.1 refl

pub returns-clause-promises : goal.returns-clause-promises
returns-clause-promises g c =
    let subject = c.args.subject.now in
    let k : Campaign = campaign_in g.T.Target subject in
    record {
      promises = c.each_behaviour_is_tried.ensures.promises subject.target.now subject.workload.now subject.settings.now c.plan_settings.ensures.ranges c.in_ok-text.ensures.minimal;
      causes = c.each_behaviour_is_tried.ensures.causes k;
    }
