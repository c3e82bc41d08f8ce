use Rattle.std.proofs.Common.{◌≡◌, Option, Ok, IfErr, OnOk, subst}
use Rattle.campaign_settings.specs.Keys.{Text, is_known}
use Rattle.campaign_settings.specs.Settings.{RefusedBy, all_known}
use Rattle.campaign_settings.proofs.SettingsLemmas.{first-unknown}
use Rattle.campaign_settings.proofs.tables.refuse_unknown.Goals as goal

pub returns-clause-ok : goal.returns-clause-ok
returns-clause-ok c =
    let P : Option Text → Type 0 = λ o. OnOk c.refuse_key.result (all_known c.args.place o ≡ Ok tt) in
    subst P (first-unknown (is_known c.args.place) c.args.table.now.entries c.unknown_key.result c.unknown_key.ensures.ordered c.unknown_key.ensures.found) c.refuse_key.ensures.ok

pub returns-clause-refused : goal.returns-clause-refused
returns-clause-refused c =
    let P : Option Text → Type 0 = λ o. IfErr c.refuse_key.result (RefusedBy (all_known c.args.place o)) in
    subst P (first-unknown (is_known c.args.place) c.args.table.now.entries c.unknown_key.result c.unknown_key.ensures.ordered c.unknown_key.ensures.found) c.refuse_key.ensures.refused
