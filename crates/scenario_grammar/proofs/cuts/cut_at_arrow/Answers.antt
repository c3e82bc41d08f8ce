use Rattle.scenario_grammar.proofs.Arrows.{cut_by_split}
use Rattle.scenario_grammar.proofs.cuts.cut_at_arrow.Goals as goal

pub returns : goal.returns
returns c = cut_by_split c.args.text.now c.split_once.result c.split_once.ensures.cases
