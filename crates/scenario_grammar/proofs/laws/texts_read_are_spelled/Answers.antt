use Rattle.scenario_grammar.proofs.TextSound.{text_gives}
use Rattle.scenario_grammar.proofs.laws.texts_read_are_spelled.Goals as goal

pub returns : goal.returns
returns c = text_gives
