use Rattle.scenario_values.specs.Faults.{faults}
use Rattle.scenario_values.proofs.Limits.{FaultsWalk}
use Rattle.scenario_values.proofs.numbering.faults.Given as goal

abbrev pub invariant-loop-chain : goal.invariant-loop-chain
invariant-loop-chain l = FaultsWalk l.places.items (faults l.scenario) l.chain-iterator l.entry
