use Rattle.answered_runs.specs.Answered.{runs_in}
use Rattle.outside_campaign.proofs.WithDepthLemmas.Gaps.{gap_unrun, gap_within}
use Rattle.outside_campaign.proofs.with_depth.grown.refuse_gap.Goals as goal

pub scenario_of-requires : goal.scenario_of-requires
scenario_of-requires c = gap_within (runs_in c.args.known.now.answered) c.args.known.now.list.plans _ _ c.in-Some.is c.gap.ensures

pub returns-in_ok-scenario-in-Some-clause-fault : goal.returns-in_ok-scenario-in-Some-clause-fault
returns-in_ok-scenario-in-Some-clause-fault c =
    gap_unrun c.args.known.now.answered c.args.known.now.list.plans _ _ _ c.in-Some.is c.gap.ensures c.in_ok-scenario-in-Some.ensures
