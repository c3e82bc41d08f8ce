use Rattle.std.proofs.Common.{◌≡◌, Option, Ok, IfErr, OnOk, subst}
use Rattle.campaign_settings.specs.Keys.{Text}
use Rattle.campaign_settings.specs.Outside.{is_one_of}
use Rattle.campaign_settings.specs.Settings.{RefusedBy, all_known}
use Rattle.campaign_settings.specs.declared.keys.Place.TheVariants.{Kinds}
use Rattle.campaign_settings.proofs.SettingsLemmas.{first-unknown}
use Rattle.campaign_settings.proofs.kinds.refuse_unknown_point.Goals as goal

pub returns-clause-ok : goal.returns-clause-ok
returns-clause-ok c =
    let P : Option Text → Type 0 = λ o. OnOk c.refuse_key.result (all_known Kinds o ≡ Ok tt) in
    subst P (first-unknown (is_one_of c.args.points.now) c.args.table.now.entries c.unknown_point.result c.unknown_point.ensures.ordered c.unknown_point.ensures.found) c.refuse_key.ensures.ok

pub returns-clause-refused : goal.returns-clause-refused
returns-clause-refused c =
    let P : Option Text → Type 0 = λ o. IfErr c.refuse_key.result (RefusedBy (all_known Kinds o)) in
    subst P (first-unknown (is_one_of c.args.points.now) c.args.table.now.entries c.unknown_point.result c.unknown_point.ensures.ordered c.unknown_point.ensures.found) c.refuse_key.ensures.refused
