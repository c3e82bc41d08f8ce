use Rattle.outside_campaign.proofs.Running.{Running}
use Rattle.outside_campaign.proofs.reduction.reduce_known.Given as goal

abbrev pub invariant-loop : goal.invariant-loop
invariant-loop g l = Running (g.K.VerdictTable.verdicts l.known) l.code l.scenario l.core l.untried.items
