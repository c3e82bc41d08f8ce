use Rattle.sim_device.proofs.EffectLaws.{contents_stay}
use Rattle.sim_device.proofs.laws.contents_last.Goals as goal

pub returns : goal.returns
returns c = contents_stay
