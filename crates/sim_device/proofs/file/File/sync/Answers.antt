use Rattle.std.proofs.Common.{arith}
use Rattle.std.proofs.Math.Seq.{take-length}
use Rattle.sim_device.proofs.file.File.sync.Goals as goal

pub returns : goal.returns
returns c = grind (arith, take-length)
