use Rattle.std.proofs.Common.{◌≡◌, ◌∙◌, Ok, Err, Some, None, ap, is_some, true, rules}
use Rattle.std.specs.Option.{option_map_or}
use Rattle.toml.specs.View.{table_view}
use Rattle.campaign_settings.specs.Lists.{each}
use Rattle.campaign_settings.specs.Outside.{texts_for}
use Rattle.campaign_settings.specs.Settings.{keyed}
use Rattle.campaign_settings.specs.declared.keys.Key.TheVariants as key
use Rattle.campaign_settings.specs.declared.keys.KeyFault.TheVariants.{OutOfRange}
use Rattle.campaign_settings.proofs.KindLemmas.{kinds-many, kinds-read, kinds-tried, faults_at_points}
use Rattle.campaign_settings.proofs.kinds.read_values.Goals as goal

pub returns-in-Some-clause-ok : goal.returns-in-Some-clause-ok
returns-in-Some-clause-ok c =
    let points = c.args.points.now in
    let ms = table_view c.args.table.now in
    let listed : is_some (each (texts_for ms) points) ≡ true = search rules in
    let some : faults_at_points points ms ≡ Some c.in-Some.kinds.items = search rules in
    kinds-read points ms listed ∙ ap (λ o. option_map_or (λ kinds. Ok kinds) o (Err OutOfRange)) some

pub returns-in-Some-clause-many : goal.returns-in-Some-clause-many
returns-in-Some-clause-many c =
    let some : faults_at_points c.args.points.now (table_view c.args.table.now) ≡ Some c.in-Some.kinds.items = search rules in
    kinds-many c.args.points.now (table_view c.args.table.now) c.in-Some.kinds.items some

pub returns-in-Some-clause-tried : goal.returns-in-Some-clause-tried
returns-in-Some-clause-tried c =
    let some : faults_at_points c.args.points.now (table_view c.args.table.now) ≡ Some c.in-Some.kinds.items = search rules in
    kinds-tried c.args.points.now (table_view c.args.table.now) c.in-Some.kinds.items some

pub returns-in-None-clause-refused : goal.returns-in-None-clause-refused
returns-in-None-clause-refused c =
    let points = c.args.points.now in
    let ms = table_view c.args.table.now in
    let listed : is_some (each (texts_for ms) points) ≡ true = search rules in
    let none : faults_at_points points ms ≡ None = search rules in
    ap (keyed key.Kinds) (kinds-read points ms listed ∙ ap (λ o. option_map_or (λ kinds. Ok kinds) o (Err OutOfRange)) none)
