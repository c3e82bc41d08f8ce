use Rattle.sim_device.proofs.EffectLaws.{built_on}
use Rattle.sim_device.proofs.laws.kept_bytes_are_appended_to.Goals as goal

pub returns : goal.returns
returns c = built_on
