use Rattle.std.proofs.Common.{◌≡◌, ◌∙◌, is_some, rules}
use Rattle.std.specs.List.{list_all}
use Rattle.toml.specs.View.{view}
use Rattle.campaign_settings.specs.Lists.{list_in}
use Rattle.campaign_settings.proofs.ListLemmas.{all-some}
use Rattle.campaign_settings.proofs.lists.are_text_lists.Goals as goal

pub returns : goal.returns
returns c =
    let told : c.all_text_lists.result ≡ list_all (λ v. is_some (list_in (view v))) c.args.items.now.items = search rules in
    told ∙ all-some list_in c.args.items.now.items
