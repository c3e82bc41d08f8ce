use Rattle.scenario_grammar.proofs.PrintLaws.{term_spelled, term_again}
use Rattle.scenario_grammar.proofs.laws.printed_terms_are_read.Goals as goal

pub returns : goal.returns
returns c = record { spelled = term_spelled; again = term_again }
