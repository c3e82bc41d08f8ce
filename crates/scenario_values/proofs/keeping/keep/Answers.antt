use Rattle.std.proofs.Common.{◌≡◌, ap, sym, subst, ◌∙◌}
use Rattle.scenario_values.specs.Scenario.{Entries, IsScenario, entries_of}
use Rattle.scenario_values.specs.Keep.{kept}
use Rattle.scenario_values.proofs.NameLaws.{entries_same}
use Rattle.scenario_values.proofs.Walking.{ascends_from}
use Rattle.scenario_values.proofs.Limits.{kept_scenario}
use Rattle.scenario_values.proofs.keeping.keep.Goals as goal

pub from_entries-requires : goal.from_entries-requires
from_entries-requires c =
    let i = kept_scenario c.args.set.now c.args.scenario.now c.entries.ensures.limits in
    let same : c.in_ok-entries.entries.entries ≡ kept c.args.set.now c.args.scenario.now = c.in_ok-entries.ensures ∙ ap (λ (s : Entries). entries_of (kept c.args.set.now s)) c.entries.ensures.value ∙ entries_same (kept c.args.set.now c.args.scenario.now) i.distinct_names in
    subst (λ (s : Entries). IsScenario s) (sym same) i

pub returns : goal.returns
returns c =
    let i = kept_scenario c.args.set.now c.args.scenario.now c.entries.ensures.limits in
    c.from_entries.ensures ∙ c.in_ok-entries.ensures ∙ ap (λ (s : Entries). entries_of (kept c.args.set.now s)) c.entries.ensures.value ∙ entries_same (kept c.args.set.now c.args.scenario.now) i.distinct_names

pub kept_entries-requires-clause-ascends : goal.kept_entries-requires-clause-ascends
kept_entries-requires-clause-ascends c = ascends_from 0 _ c.args.set.now c.requires
