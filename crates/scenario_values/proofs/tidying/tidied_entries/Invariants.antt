use Rattle.std.proofs.Common.{◌≡◌}
use Rattle.std.specs.Str.{bytes_eq}
use Rattle.indexmap.specs.IndexMap.{insert_all}
use Rattle.scenario_values.specs.Scenario.{entries_of}
use Rattle.scenario_values.specs.Tidied.{tidied}
use Rattle.scenario_values.proofs.tidying.tidied_entries.Given as goal

abbrev pub invariant-loop-name : goal.invariant-loop-name
invariant-loop-name l = insert_all bytes_eq l.to.entries (tidied l.name-iterator) ≡ entries_of (tidied l.from.entries)
