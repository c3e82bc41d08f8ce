use Rattle.scenario_values.proofs.KeptAgain.{kept_again, kept_without}
use Rattle.scenario_values.proofs.laws.keeping_again_is_keeping_a_part.Goals as goal

pub returns : goal.returns
returns c = record { part = λ s set places e w. kept_again s set places e w; without = λ s set i e. kept_without s set i e }
