use Rattle.std.proofs.Common.{arith}
use Rattle.std.proofs.lemmas.List.{take-take}
use Rattle.sim_device.proofs.file.File.cut.Goals as goal

pub returns : goal.returns
returns c = grind (arith, take-take)
