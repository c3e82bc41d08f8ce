use Rattle.sim_device.proofs.PendingLaws.{none_kept_names, none_kept_contents}
use Rattle.sim_device.proofs.laws.nothing_kept_leaves_what_lasts.Goals as goal

pub returns-clause-names : goal.returns-clause-names
returns-clause-names c = none_kept_names

pub returns-clause-contents : goal.returns-clause-contents
returns-clause-contents c = none_kept_contents
