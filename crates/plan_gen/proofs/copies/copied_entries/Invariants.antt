use Rattle.std.proofs.Common.{◌≡◌}
use Rattle.std.specs.Str.{bytes_eq}
use Rattle.indexmap.specs.IndexMap.{insert_all}
use Rattle.scenario_values.specs.Scenario.{entries_of}
use Rattle.plan_gen.proofs.copies.copied_entries.Given as goal

abbrev pub invariant-loop-name : goal.invariant-loop-name
invariant-loop-name l = insert_all bytes_eq l.to.entries l.name-iterator ≡ entries_of l.from.entries
