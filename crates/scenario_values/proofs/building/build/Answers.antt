use Rattle.std.proofs.Common.{sym, subst, ◌∙◌}
use Rattle.scenario_values.specs.Scenario.{Entries, IsScenario}
use Rattle.scenario_values.specs.Built.{listed}
use Rattle.scenario_values.proofs.NameLaws.{entries_same}
use Rattle.scenario_values.proofs.building.build.Goals as goal

pub from_entries-requires : goal.from_entries-requires
from_entries-requires c = subst (λ (s : Entries). IsScenario s) (sym (c.in_ok-built.ensures ∙ entries_same (listed c.args.entries.now) c.requires.distinct_names)) c.requires

pub returns : goal.returns
returns c = c.from_entries.ensures ∙ c.in_ok-built.ensures ∙ entries_same (listed c.args.entries.now) c.requires.distinct_names
