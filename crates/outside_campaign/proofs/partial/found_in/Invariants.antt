use Rattle.std.proofs.Common.{drop}
use Rattle.outside_campaign.specs.Campaigns.{code_name}
use Rattle.outside_campaign.proofs.PlansFound.{IsLeft}
use Rattle.outside_campaign.proofs.partial.found_in.Given as goal

abbrev pub invariant-loop-number : goal.invariant-loop-number
invariant-loop-number g l = IsLeft (code_name l.words.outside.now.codes) (g.K.VerdictTable.verdicts l.known) l.plans (drop l.number l.plans) l.found
