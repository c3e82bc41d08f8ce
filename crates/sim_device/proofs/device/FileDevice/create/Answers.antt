use Rattle.std.proofs.Common.{rules}
use Rattle.sim_device.proofs.device.FileDevice.create.Goals as goal

pub returns-in_err-ready-clause-fault : goal.returns-in_err-ready-clause-fault
returns-in_err-ready-clause-fault c = search rules
