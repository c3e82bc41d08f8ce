use Rattle.std.proofs.Common.{◌≡◌, map, take}
use Rattle.outside_campaign.specs.with_depth.Kinds.{kind_of}
use Rattle.outside_campaign.proofs.with_depth.kinds.kinds_of.Given as goal

abbrev pub invariant-loop-fault : goal.invariant-loop-fault
invariant-loop-fault l = l.kinds.items ≡ map kind_of (take l.fault-index l.faults)
