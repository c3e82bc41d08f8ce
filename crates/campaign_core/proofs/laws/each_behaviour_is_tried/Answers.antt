use Rattle.std.proofs.Common.{arith, refl}
use Rattle.campaign_core.specs.Headline.{campaign_on}
use Rattle.campaign_core.proofs.Causes.{causes_are_causes}
use Rattle.campaign_core.proofs.Promised.{keeps_promises}
use Rattle.campaign_core.proofs.laws.each_behaviour_is_tried.Goals as goal

pub returns-clause-causes : goal.returns-clause-causes
returns-clause-causes g c = λ k. causes_are_causes k k.given.depth refl

pub returns-clause-promises : goal.returns-clause-promises
returns-clause-promises g c = λ setup workload given is.
    let k = campaign_on g.T.Target setup workload given in
    let few = is.few_hits in
    keeps_promises k (c.each_target_is_a_lawful_subject.ensures setup workload k.given.max_hits) (omega (arith, few)) is.low_depth
