use Rattle.scenario_values.proofs.Finding.{Seeking}
use Rattle.scenario_values.proofs.found.find_entry.Given as goal

abbrev pub invariant-loop-other : goal.invariant-loop-other
invariant-loop-other l = Seeking l.entries.entries l.other-iterator l.name l.entry
