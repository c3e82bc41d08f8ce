use Rattle.outside_campaign.proofs.Lines.{LookedUp}
use Rattle.outside_campaign.specs.with_depth.Grown.{known}
use Rattle.outside_campaign.proofs.with_depth.grown.verdicts_of.Given as goal

abbrev pub invariant-loop-number : goal.invariant-loop-number
invariant-loop-number l = LookedUp (known l.known.answered l.known.depth) l.plans l.number l.verdicts.items
