use Rattle.std.proofs.Common.{◌≡◌, drop}
use Rattle.scenario_values.specs.Keep.{ascend_from, are_faults}
use Rattle.scenario_values.proofs.keeping.are_faults.Given as goal

abbrev pub invariant-loop-number : goal.invariant-loop-number
invariant-loop-number l = ascend_from l.low l.count (drop l.number-index l.set) ≡ are_faults l.count l.set
