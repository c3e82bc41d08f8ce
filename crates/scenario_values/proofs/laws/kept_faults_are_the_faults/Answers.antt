use Rattle.scenario_values.proofs.KeptAgain.{kept_count}
use Rattle.scenario_values.proofs.KeptNamed.{kept_named}
use Rattle.scenario_values.proofs.laws.kept_faults_are_the_faults.Goals as goal

pub returns : goal.returns
returns c = record { count = λ s set e. kept_count s set e; same = λ s set e. kept_named s set e }
