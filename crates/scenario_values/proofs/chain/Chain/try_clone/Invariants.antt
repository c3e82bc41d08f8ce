use Rattle.std.proofs.Common.{◌≡◌, take}
use Rattle.scenario_values.proofs.chain.Chain.try_clone.Given as goal

abbrev pub invariant-loop-term : goal.invariant-loop-term
invariant-loop-term l = l.terms.items ≡ take l.term-index l.term-items
