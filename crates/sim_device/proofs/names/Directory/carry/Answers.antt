use Rattle.std.proofs.Common.{rules}
use Rattle.sim_device.proofs.names.Directory.carry.Goals as goal

pub returns-clause-ok : goal.returns-clause-ok
returns-clause-ok c = search rules
