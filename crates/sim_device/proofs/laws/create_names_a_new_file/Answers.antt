use Rattle.sim_device.proofs.EffectLaws.{create_names}
use Rattle.sim_device.proofs.laws.create_names_a_new_file.Goals as goal

pub returns : goal.returns
returns c = create_names
