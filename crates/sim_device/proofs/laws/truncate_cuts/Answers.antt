use Rattle.sim_device.proofs.EffectLaws.{truncate_cuts}
use Rattle.sim_device.proofs.laws.truncate_cuts.Goals as goal

pub returns : goal.returns
returns c = truncate_cuts
