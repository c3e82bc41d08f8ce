use Rattle.sim_device.proofs.EffectLaws.{create_empties}
use Rattle.sim_device.proofs.laws.new_files_are_empty.Goals as goal

pub returns : goal.returns
returns c = create_empties
