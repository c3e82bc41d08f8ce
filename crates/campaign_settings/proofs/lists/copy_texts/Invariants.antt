use Rattle.std.proofs.Common.{◌≡◌, drop}
use Rattle.toml.specs.View.{items_view}
use Rattle.campaign_settings.specs.Lists.{texts_in}
use Rattle.campaign_settings.proofs.ListLemmas.{joined}
use Rattle.campaign_settings.proofs.lists.copy_texts.Given as goal

abbrev pub invariant-loop-item : goal.invariant-loop-item
invariant-loop-item l = joined l.texts.items (texts_in (items_view (drop l.item-index l.items.items))) ≡ texts_in (items_view l.items.items)
