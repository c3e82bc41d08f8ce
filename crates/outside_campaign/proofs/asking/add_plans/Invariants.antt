use Rattle.std.proofs.Common.{◌≡◌, take}
use Rattle.answered_runs.specs.asked.Lines.{lines_behind}
use Rattle.outside_campaign.specs.Asked.{open_plans}
use Rattle.outside_campaign.proofs.asking.add_plans.Given as goal

abbrev pub invariant-loop-number : goal.invariant-loop-number
invariant-loop-number g l = l.lines ≡ lines_behind l.fn.lines (open_plans (g.K.VerdictTable.verdicts l.known) (take l.number l.plans))
