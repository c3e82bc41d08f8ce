use Rattle.std.proofs.Common.{◌+◌, drop}
use Rattle.scenario_values.specs.Keep.{kept_chain, after_chain}
use Rattle.scenario_values.proofs.Chains.{ChainWalk}
use Rattle.scenario_values.proofs.keeping.keep_chain.Given as goal

abbrev pub invariant-loop-term : goal.invariant-loop-term
invariant-loop-term l = ChainWalk l.set l.kept.items (kept_chain l.set l.fn.first.number l.terms) (after_chain l.fn.first.number l.terms) (drop l.term-index l.terms) (l.fn.first.number + l.term-index) l.walk.number l.walk.passed
