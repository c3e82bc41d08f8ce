use Rattle.outside_campaign.proofs.Gathered.{Gathering}
use Rattle.outside_campaign.proofs.findings.findings_known.Given as goal

abbrev pub invariant-loop-i : goal.invariant-loop-i
invariant-loop-i g l = Gathering (g.K.VerdictTable.verdicts l.known) l.plans l.failures l.i l.findings.items l.requests.items
