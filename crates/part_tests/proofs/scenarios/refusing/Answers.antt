use Rattle.std.proofs.Common.{[], ◌∷◌, None, codes, refl, arith}
use Rattle.scenario_values.specs.declared.term.Task.TheVariants as task
use Rattle.scenario_values.specs.Printed.{printed, chain_text, term_text, share_text}
use Rattle.scenario_values.specs.Scenario.{IsScenario}
use Rattle.part_tests.proofs.scenarios.refusing.Goals as goal

is_scenario : IsScenario ((codes "one::step", record { share = 1000000; count = None; task = task.Return None } ∷ []) ∷ [])
unfolding printed chain_text term_text share_text
is_scenario = record {
  few_entries = omega arith;
  no_empty_chain = (omega arith, tt);
  short_chains = (omega arith, tt);
  distinct_names = (tt, tt);
  lawful_names = (refl, tt);
  lawful_terms = ((refl, tt), tt);
  few_faults = omega arith;
  short_text = omega arith;
}

pub build-requires : goal.build-requires
build-requires c = is_scenario
