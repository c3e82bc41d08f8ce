use Rattle.std.proofs.Common.{◌≡◌, map, take}
use Rattle.campaign_core.specs.Findings.{cause_of}
use Rattle.campaign_core.proofs.reporting.causes_of.Given as goal

abbrev pub invariant-loop-number : goal.invariant-loop-number
invariant-loop-number l = l.all.items ≡ map (cause_of l.fn.plans) (take l.number-index l.fn.causes)
