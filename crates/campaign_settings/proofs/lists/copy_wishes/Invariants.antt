use Rattle.std.proofs.Common.{◌≡◌, ◌++◌, drop, map}
use Rattle.campaign_settings.specs.Lists.{wish_of}
use Rattle.campaign_settings.proofs.lists.copy_wishes.Given as goal

abbrev pub invariant-loop-word : goal.invariant-loop-word
invariant-loop-word l = l.votes.items ++ map wish_of (drop l.word-index l.words) ≡ map wish_of l.words
