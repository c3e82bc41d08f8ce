use Rattle.scenario_values.proofs.OriginLaws.{count_places}
use Rattle.scenario_values.proofs.KeptNamed.{named_at_places}
use Rattle.scenario_values.proofs.laws.faults_are_counted.Goals as goal

pub returns : goal.returns
returns c = record { count = λ s. count_places s; same = λ s. named_at_places s }
