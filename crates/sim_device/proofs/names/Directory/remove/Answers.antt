use Rattle.std.proofs.Common.{rules}
use Rattle.sim_device.proofs.names.Directory.remove.Goals as goal

pub returns-then-name-len : goal.returns-then-name-len
returns-then-name-len c = search rules
