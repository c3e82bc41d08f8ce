use Rattle.std.proofs.Common.{◌≡◌, drop, option_and_then}
use Rattle.toml.specs.Data.{as_integer}
use Rattle.toml.specs.View.{items_view}
use Rattle.campaign_settings.specs.Lists.{all_in}
use Rattle.campaign_settings.specs.Outside.{count_of}
use Rattle.campaign_settings.proofs.ListLemmas.{joined}
use Rattle.campaign_settings.proofs.described.copy_counts.Given as goal

abbrev pub invariant-loop-item : goal.invariant-loop-item
invariant-loop-item l = joined l.counts.items (all_in (λ d. option_and_then count_of (as_integer d)) (items_view (drop l.item-index l.items.items))) ≡ all_in (λ d. option_and_then count_of (as_integer d)) (items_view l.items.items)
