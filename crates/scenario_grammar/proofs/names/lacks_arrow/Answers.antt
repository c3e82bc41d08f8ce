use Rattle.scenario_grammar.proofs.Arrows.{contains_arrow}
use Rattle.scenario_grammar.proofs.names.lacks_arrow.Goals as goal

pub returns : goal.returns
returns c = contains_arrow c.args.text.now c.contains.result c.contains.ensures.cases
