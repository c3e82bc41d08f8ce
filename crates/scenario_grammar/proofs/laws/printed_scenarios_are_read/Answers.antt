use Rattle.scenario_grammar.proofs.RoundTrip.{printed_spells, printed_again}
use Rattle.scenario_grammar.proofs.laws.printed_scenarios_are_read.Goals as goal

pub returns : goal.returns
returns c = record { spelled = printed_spells; again = printed_again }
