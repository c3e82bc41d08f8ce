use Rattle.std.proofs.Common.{◌≡◌, drop}
use Rattle.campaign_settings.specs.Words.{word_at}
use Rattle.campaign_settings.proofs.own.OwnWords.get.Given as goal

abbrev pub invariant-loop-word : goal.invariant-loop-word
invariant-loop-word l = word_at l.name (drop l.word-index l.word-items) ≡ word_at l.name l.word-items
