use Rattle.scenario_values.proofs.OriginLaws.{origins_are_faults, origins_count, origins_inside, origins_named}
use Rattle.scenario_values.proofs.laws.tidied_faults_have_origins.Goals as goal

pub returns : goal.returns
returns c = record { faults = λ s. origins_are_faults s; count = λ s. origins_count s; inside = λ s i h. origins_inside s i h; same = λ s. origins_named s }
