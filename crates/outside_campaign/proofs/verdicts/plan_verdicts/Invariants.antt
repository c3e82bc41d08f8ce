use Rattle.outside_campaign.proofs.Lines.{LookedUp}
use Rattle.outside_campaign.proofs.verdicts.plan_verdicts.Given as goal

abbrev pub invariant-loop-number : goal.invariant-loop-number
invariant-loop-number g l = LookedUp (g.K.VerdictTable.verdicts l.known) l.plans l.number l.verdicts.items
