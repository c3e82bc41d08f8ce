use Rattle.std.proofs.Common.{rules}
use Rattle.sim_device.proofs.device.FileDevice.sync_dir.Goals as goal

pub returns : goal.returns
returns c = search rules
