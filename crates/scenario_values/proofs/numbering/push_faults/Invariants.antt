use Rattle.std.proofs.Common.{◌≡◌, ◌++◌, drop}
use Rattle.scenario_values.specs.Faults.{chain_faults}
use Rattle.scenario_values.proofs.numbering.push_faults.Given as goal

abbrev pub invariant-loop-t : goal.invariant-loop-t
invariant-loop-t l = (l.term ≡ l.t-index) × (l.places.items ++ chain_faults l.entry l.term (drop l.t-index l.terms) ≡ l.fn.places.items ++ chain_faults l.entry 0 l.terms)
