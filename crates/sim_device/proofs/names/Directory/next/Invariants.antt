use Rattle.sim_device.specs.Disk.{IsNoneThere}
use Rattle.sim_device.proofs.names.Directory.next.Given as goal

abbrev pub invariant-loop-place : goal.invariant-loop-place
invariant-loop-place l = IsNoneThere l.self l.from l.place
