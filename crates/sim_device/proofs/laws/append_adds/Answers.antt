use Rattle.sim_device.proofs.EffectLaws.{append_adds}
use Rattle.sim_device.proofs.laws.append_adds.Goals as goal

pub returns : goal.returns
returns c = append_adds
