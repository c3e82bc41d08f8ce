use Rattle.scenario_grammar.proofs.Limits.{reading_keeps}
use Rattle.scenario_grammar.proofs.parsing.read.Goals as goal

pub from_entries-requires : goal.from_entries-requires
from_entries-requires c = reading_keeps c.args.text.now c.in_ok-entries.entries.entries c.in_ok-entries.ensures
