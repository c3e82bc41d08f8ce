use Rattle.std.proofs.Common.{rules}
use Rattle.sim_device.proofs.fault.DeviceFaultDisplay.fmt.Goals as goal

pub returns-clause-writes : goal.returns-clause-writes
returns-clause-writes c = search rules
