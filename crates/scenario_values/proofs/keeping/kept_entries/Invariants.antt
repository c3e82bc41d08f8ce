use Rattle.scenario_values.specs.Scenario.{entries_of}
use Rattle.scenario_values.specs.Keep.{kept}
use Rattle.scenario_values.proofs.Limits.{EntriesWalk}
use Rattle.scenario_values.proofs.keeping.kept_entries.Given as goal

abbrev pub invariant-loop-name : goal.invariant-loop-name
invariant-loop-name l = EntriesWalk l.set l.to.entries (entries_of (kept l.set l.from.entries)) l.name-iterator l.walk.number l.walk.passed
