use Rattle.scenario_grammar.proofs.FirstPieces.{same_first, none_before}
use Rattle.scenario_grammar.proofs.laws.first_fault_is_local.Goals as goal

pub returns : goal.returns
returns c = record { same = same_first; before = none_before }
