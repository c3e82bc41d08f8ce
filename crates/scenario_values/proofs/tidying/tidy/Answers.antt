use Rattle.std.proofs.Common.{◌≡◌, ap, sym, subst, ◌∙◌}
use Rattle.scenario_values.specs.Scenario.{Entries, IsScenario, entries_of}
use Rattle.scenario_values.specs.Tidied.{tidied}
use Rattle.scenario_values.proofs.NameLaws.{entries_same}
use Rattle.scenario_values.proofs.Limits.{tidied_scenario}
use Rattle.scenario_values.proofs.tidying.tidy.Goals as goal

pub from_entries-requires : goal.from_entries-requires
from_entries-requires c =
    let i = tidied_scenario c.args.scenario.now c.entries.ensures.limits in
    let same : c.in_ok-entries.entries.entries ≡ tidied c.args.scenario.now = c.in_ok-entries.ensures ∙ ap (λ (s : Entries). entries_of (tidied s)) c.entries.ensures.value ∙ entries_same (tidied c.args.scenario.now) i.distinct_names in
    subst (λ (s : Entries). IsScenario s) (sym same) i

pub returns : goal.returns
returns c =
    let i = tidied_scenario c.args.scenario.now c.entries.ensures.limits in
    c.from_entries.ensures ∙ c.in_ok-entries.ensures ∙ ap (λ (s : Entries). entries_of (tidied s)) c.entries.ensures.value ∙ entries_same (tidied c.args.scenario.now) i.distinct_names
