use Rattle.std.proofs.Common.{◌≡◌, take}
use Rattle.ddmin_parallel.specs.Runs.{faults_of}
use Rattle.ddmin_parallel.proofs.fault_set.FaultSet.faults.Given as goal

abbrev pub invariant-loop-run : goal.invariant-loop-run
invariant-loop-run l = l.faults.items ≡ faults_of (take l.run-index l.run-items)
