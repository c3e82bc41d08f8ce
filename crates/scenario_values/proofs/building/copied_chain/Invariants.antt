use Rattle.std.proofs.Common.{◌≡◌, take}
use Rattle.scenario_values.proofs.building.copied_chain.Given as goal

abbrev pub invariant-loop-term : goal.invariant-loop-term
invariant-loop-term l = l.copies.items ≡ take l.term-index l.terms
