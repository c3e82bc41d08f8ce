use Rattle.std.proofs.Common.{◌≡◌, map, take}
use Rattle.outside_campaign.specs.with_depth.Kinds.{kind_of}
use Rattle.outside_campaign.proofs.with_depth.kinds.kinds_of_each.Given as goal

abbrev pub invariant-loop-faults : goal.invariant-loop-faults
invariant-loop-faults l = map (λ k. k.items) l.kinds.items ≡ map (map kind_of) (take l.faults-index l.tried)
