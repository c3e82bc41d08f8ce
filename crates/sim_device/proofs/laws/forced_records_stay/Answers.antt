use Rattle.sim_device.proofs.LogLaws.{forced_stay}
use Rattle.sim_device.proofs.laws.forced_records_stay.Goals as goal

pub returns : goal.returns
returns g c = forced_stay
