use Rattle.sim_device.proofs.EffectLaws.{names_alone}
use Rattle.sim_device.proofs.laws.unnamed_names_stay.Goals as goal

pub returns : goal.returns
returns c = names_alone
