use Rattle.std.proofs.Common.{◌≡◌, Some, map, take}
use Rattle.outside_campaign.proofs.verdicts.verdicts_known.Given as goal

abbrev pub invariant-loop-i : goal.invariant-loop-i
invariant-loop-i l = map (λ v. Some v) l.all.items ≡ take l.i l.verdicts
