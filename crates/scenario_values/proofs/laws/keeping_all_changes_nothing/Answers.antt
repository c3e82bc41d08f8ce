use Rattle.scenario_values.proofs.KeptAgain.{kept_all}
use Rattle.scenario_values.proofs.laws.keeping_all_changes_nothing.Goals as goal

pub returns : goal.returns
returns c s = kept_all s
