use Rattle.sim_device.proofs.InUse.{reads_held}
use Rattle.sim_device.proofs.laws.names_read_what_they_hold.Goals as goal

pub returns : goal.returns
returns c = reads_held
