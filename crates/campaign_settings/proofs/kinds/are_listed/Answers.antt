use Rattle.std.proofs.Common.{◌≡◌, ◌∙◌, is_some, rules}
use Rattle.std.specs.List.{list_all}
use Rattle.toml.specs.View.{table_view}
use Rattle.campaign_settings.specs.Outside.{texts_for}
use Rattle.campaign_settings.proofs.ListLemmas.{each-some}
use Rattle.campaign_settings.proofs.kinds.are_listed.Goals as goal

pub returns : goal.returns
returns c =
    let told : c.all_listed.result ≡ list_all (λ point. is_some (texts_for (table_view c.args.table.now) point)) c.args.points.now = search rules in
    told ∙ each-some (texts_for (table_view c.args.table.now)) c.args.points.now
