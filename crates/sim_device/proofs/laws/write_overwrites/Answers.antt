use Rattle.sim_device.proofs.EffectLaws.{write_overwrites}
use Rattle.sim_device.proofs.laws.write_overwrites.Goals as goal

pub returns : goal.returns
returns c = write_overwrites
