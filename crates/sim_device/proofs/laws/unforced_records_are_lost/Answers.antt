use Rattle.sim_device.proofs.LogLaws.{unforced_lost}
use Rattle.sim_device.proofs.laws.unforced_records_are_lost.Goals as goal

pub returns : goal.returns
returns g c = unforced_lost
