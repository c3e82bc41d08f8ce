use Rattle.std.proofs.Common.{◌≡◌, drop}
use Rattle.std.specs.Str.{bytes_eq}
use Rattle.indexmap.specs.IndexMap.{insert_all}
use Rattle.action_eval.specs.Answers.{texts}
use Rattle.scenario_values.specs.Scenario.{entries_of}
use Rattle.action_eval.specs.RiggedScenario.{entries_from, rigged_scenario}
use Rattle.plan_gen.proofs.rigged_scenario.rigged_entries.Given as goal

abbrev pub invariant-loop-name : goal.invariant-loop-name
invariant-loop-name l = record {
  number : l.point ≡ l.name-index;
  built : insert_all bytes_eq l.to.entries (entries_from l.point (texts (drop l.name-index l.catalogue)) l.rigs) ≡ entries_of (rigged_scenario (texts l.catalogue) l.rigs);
}
