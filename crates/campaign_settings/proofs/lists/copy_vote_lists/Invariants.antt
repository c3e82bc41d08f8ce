use Rattle.std.proofs.Common.{◌≡◌, drop, option_and_then}
use Rattle.toml.specs.View.{items_view}
use Rattle.campaign_settings.specs.Lists.{all_in, list_in, wishes_of}
use Rattle.campaign_settings.proofs.ListLemmas.{joined}
use Rattle.campaign_settings.proofs.lists.copy_vote_lists.Given as goal

abbrev pub invariant-loop-item : goal.invariant-loop-item
invariant-loop-item l = joined l.lists.items (all_in (λ d. option_and_then (wishes_of l.participants) (list_in d)) (items_view (drop l.item-index l.items.items))) ≡ all_in (λ d. option_and_then (wishes_of l.participants) (list_in d)) (items_view l.items.items)
