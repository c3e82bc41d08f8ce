use Rattle.scenario_values.specs.Keep.{kept, members_at}
use Rattle.scenario_values.specs.Origins.{origins}
use Rattle.scenario_values.specs.Tidied.{tidied}
use Rattle.scenario_values.proofs.OriginLaws.{origins_members}
use Rattle.action_eval.proofs.RunLaws.{kept_means, means_back}
use Rattle.action_eval.proofs.laws.keep_of_tidied.Goals as goal

pub returns : goal.returns
returns c =
    let s = c.args.scenario.now in
    let own = c.args.set.now in
    let from = members_at (origins s) own in
    means_back (kept from s) (kept own (tidied s)) (kept_means s from own c.entries.ensures.limits.distinct_names (origins_members s own c.requires))
