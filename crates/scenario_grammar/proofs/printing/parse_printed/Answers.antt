use Rattle.scenario_grammar.proofs.OneSpelling.{same_by, only_memory}
use Rattle.scenario_grammar.proofs.printing.parse_printed.Goals as goal

pub returns-clause-same : goal.returns-clause-same
returns-clause-same c = same_by c.deref.result.now c.args.scenario.now c.parse.result (rw c.deref.ensures c.in_ok-text.ensures.spelled.0) c.parse.ensures.found

pub returns-clause-only : goal.returns-clause-only
returns-clause-only c = only_memory c.deref.result.now c.parse.result (rw c.deref.ensures c.in_ok-text.ensures.spelled.1) c.parse.ensures.refused
