use Rattle.scenario_grammar.proofs.TermSound.{term_sound}
use Rattle.scenario_grammar.proofs.laws.terms_read_are_spelled.Goals as goal

pub returns : goal.returns
returns c = term_sound
