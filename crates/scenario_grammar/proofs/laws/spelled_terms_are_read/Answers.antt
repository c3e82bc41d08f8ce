use Rattle.scenario_grammar.proofs.TermLaws.{term_read}
use Rattle.scenario_grammar.proofs.laws.spelled_terms_are_read.Goals as goal

pub returns : goal.returns
returns c = term_read
