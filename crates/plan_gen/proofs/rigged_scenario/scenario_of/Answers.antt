use Rattle.std.proofs.Common.{sym, subst, ◌∙◌}
use Rattle.action_eval.specs.Answers.{texts}
use Rattle.scenario_values.specs.Scenario.{Entries, IsScenario}
use Rattle.scenario_values.proofs.NameLaws.{entries_same}
use Rattle.action_eval.specs.RiggedScenario.{rigged_scenario}
use Rattle.plan_gen.proofs.Rigged.{rigged_scenario_keeps}
use Rattle.plan_gen.proofs.rigged_scenario.scenario_of.Goals as goal

pub from_entries-requires : goal.from_entries-requires
from_entries-requires c =
    let s = rigged_scenario (texts c.args.catalogue.now) c.args.rigs.now in
    let i = rigged_scenario_keeps (texts c.args.catalogue.now) c.args.rigs.now c.requires.lawful c.requires.few c.requires.small c.requires.texts in
    subst (λ (s : Entries). IsScenario s) (sym (c.in_ok-entries.ensures ∙ entries_same s i.distinct_names)) i

pub returns : goal.returns
returns c =
    let s = rigged_scenario (texts c.args.catalogue.now) c.args.rigs.now in
    let i = rigged_scenario_keeps (texts c.args.catalogue.now) c.args.rigs.now c.requires.lawful c.requires.few c.requires.small c.requires.texts in
    c.from_entries.ensures ∙ c.in_ok-entries.ensures ∙ entries_same s i.distinct_names
