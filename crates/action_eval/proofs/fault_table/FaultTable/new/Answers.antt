use Rattle.std.proofs.Common.{[], refl}
use Rattle.action_eval.proofs.Rigged.{nothing_keeps}
use Rattle.action_eval.proofs.fault_table.FaultTable.new.Goals as goal

pub invariant_of-result : goal.invariant_of-result
invariant_of-result c = (tt, tt, nothing_keeps [] refl)
