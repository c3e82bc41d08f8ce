use Rattle.scenario_grammar.proofs.TermLaws.{share_of_whole, share_of_decimal}
use Rattle.scenario_grammar.proofs.laws.percentages_are_read.Goals as goal

pub returns : goal.returns
returns c = record { whole = share_of_whole; decimal = share_of_decimal }
