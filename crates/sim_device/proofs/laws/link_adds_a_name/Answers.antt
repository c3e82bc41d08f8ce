use Rattle.sim_device.proofs.EffectLaws.{link_shares}
use Rattle.sim_device.proofs.laws.link_adds_a_name.Goals as goal

pub returns : goal.returns
returns c = link_shares
