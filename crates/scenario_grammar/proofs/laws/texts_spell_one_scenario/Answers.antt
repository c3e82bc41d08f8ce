use Rattle.scenario_grammar.proofs.OneSpelling.{one_spelling}
use Rattle.scenario_grammar.proofs.laws.texts_spell_one_scenario.Goals as goal

pub returns : goal.returns
returns c = one_spelling
