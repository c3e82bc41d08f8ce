use Rattle.sim_device.proofs.PendingLaws.{all_kept_names, all_kept_contents}
use Rattle.sim_device.proofs.laws.all_kept_loses_nothing.Goals as goal

pub returns-clause-names : goal.returns-clause-names
returns-clause-names c = all_kept_names

pub returns-clause-contents : goal.returns-clause-contents
returns-clause-contents c = all_kept_contents
