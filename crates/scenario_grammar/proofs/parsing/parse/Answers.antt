use Rattle.scenario_grammar.proofs.TextLaws.{text_is}
use Rattle.scenario_grammar.proofs.Answered.{found_by, refused_by, only_by}
use Rattle.scenario_grammar.proofs.parsing.parse.Goals as goal

pub returns : goal.returns
returns c = record {
  found = found_by c.args.text.now c.read.result c.read.ensures;
  refused = refused_by c.args.text.now c.read.result c.read.ensures;
  only = λ actions h limits. only_by c.args.text.now c.read.result actions (text_is c.args.text.now actions h limits) c.read.ensures;
  exact = c.read.ensures;
}
