use Rattle.std.proofs.Common.{◌∙◌}
use Rattle.outside_campaign.proofs.ResultLemmas.{all_below}
use Rattle.outside_campaign.specs.with_depth.Grown.{known}
use Rattle.outside_campaign.proofs.WithDepthLemmas.Verdicts.{verdicts_first}
use Rattle.outside_campaign.proofs.with_depth.candidates.outcome_known.Goals as goal

pub findings_known-requires : goal.findings_known-requires
findings_known-requires c =
    all_below (known c.args.known.now.answered c.args.known.now.depth) c.args.plans.now c.args.verdicts.now c.as_slice.result.now c.requires.verdicts (c.as_slice.ensures.value ∙ c.in_ok-failures.ensures)

pub known_causes-requires : goal.known_causes-requires
known_causes-requires c =
    verdicts_first c.args.known.now.answered c.args.known.now.depth c.args.known.now.list.plans c.args.plans.now c.requires.plans.0 c.args.verdicts.now c.requires.plans.1 c.requires.verdicts
