use Rattle.scenario_grammar.proofs.TextLaws.{text_is}
use Rattle.scenario_grammar.proofs.laws.spelled_texts_are_read.Goals as goal

pub returns : goal.returns
returns c = text_is
