use Rattle.scenario_grammar.proofs.Numbers.{never_none}
use Rattle.scenario_grammar.proofs.reading.decimals.Goals as goal

pub returns-in-None-clause-value : goal.returns-in-None-clause-value
returns-in-None-clause-value c = never_none c.args.text.now c.requires.digits c.requires.short c.in-None.ensures
