use Rattle.sim_device.proofs.InUse.{leads_created}
use Rattle.sim_device.proofs.laws.names_lead_to_files.Goals as goal

pub returns : goal.returns
returns c = leads_created
