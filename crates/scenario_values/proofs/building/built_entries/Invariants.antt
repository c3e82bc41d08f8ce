use Rattle.std.proofs.Common.{◌≡◌, drop}
use Rattle.std.specs.Str.{bytes_eq}
use Rattle.indexmap.specs.IndexMap.{insert_all}
use Rattle.scenario_values.specs.Scenario.{entries_of}
use Rattle.scenario_values.specs.Built.{listed}
use Rattle.scenario_values.proofs.building.built_entries.Given as goal

abbrev pub invariant-loop-name : goal.invariant-loop-name
invariant-loop-name l = insert_all bytes_eq l.to.entries (listed (drop l.name-index l.entries)) ≡ entries_of (listed l.entries)
