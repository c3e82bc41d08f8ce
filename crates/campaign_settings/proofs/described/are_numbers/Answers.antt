use Rattle.std.proofs.Common.{◌≡◌, ◌∙◌, is_some, rules}
use Rattle.std.specs.List.{list_all}
use Rattle.toml.specs.View.{view}
use Rattle.toml.specs.Data.{as_integer}
use Rattle.campaign_settings.proofs.ListLemmas.{all-some}
use Rattle.campaign_settings.proofs.described.are_numbers.Goals as goal

pub returns : goal.returns
returns c =
    let told : c.all_numbers.result ≡ list_all (λ v. is_some (as_integer (view v))) c.args.items.now.items = search rules in
    told ∙ all-some as_integer c.args.items.now.items
