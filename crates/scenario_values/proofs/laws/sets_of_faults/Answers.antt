use Rattle.scenario_values.proofs.Sets.{all_are_faults, without_are_faults}
use Rattle.scenario_values.proofs.laws.sets_of_faults.Goals as goal

pub returns : goal.returns
returns c = record { all = λ n. all_are_faults n; without = λ n i set e. without_are_faults n i set e }
