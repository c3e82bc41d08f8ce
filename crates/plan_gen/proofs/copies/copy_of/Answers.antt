use Rattle.std.proofs.Common.{◌≡◌, ap, sym, subst, ◌∙◌}
use Rattle.scenario_values.specs.Scenario.{Entries, IsScenario, entries_of}
use Rattle.scenario_values.proofs.NameLaws.{entries_same}
use Rattle.plan_gen.proofs.copies.copy_of.Goals as goal

pub from_entries-requires : goal.from_entries-requires
from_entries-requires c =
    let i = c.entries.ensures.limits in
    let same : c.in_ok-entries.entries.entries ≡ c.args.scenario.now = c.in_ok-entries.ensures ∙ ap entries_of c.entries.ensures.value ∙ entries_same c.args.scenario.now i.distinct_names in
    subst (λ (s : Entries). IsScenario s) (sym same) i

pub returns : goal.returns
returns c =
    let i = c.entries.ensures.limits in
    c.from_entries.ensures ∙ c.in_ok-entries.ensures ∙ ap entries_of c.entries.ensures.value ∙ entries_same c.args.scenario.now i.distinct_names
