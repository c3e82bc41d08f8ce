use Rattle.scenario_values.proofs.OriginLaws.{origins_members, origins_dropped, origins_without}
use Rattle.scenario_values.proofs.laws.faults_follow_their_origins.Goals as goal

pub returns : goal.returns
returns c = record { part = λ s own w. origins_members s own w; without = λ s i h. origins_without s i h; dropped = λ s k f. origins_dropped s k f }
