use Rattle.std.proofs.Common.{◌≡◌, map, take}
use Rattle.std.specs.Borrow.{Bor}
use Rattle.clap.specs.Words.{Text}
use Rattle.command_words.specs.Words.{spelled_word}
use Rattle.command_words.proofs.words.spelled_words.Given as goal

abbrev pub invariant-loop-word : goal.invariant-loop-word
invariant-loop-word l = map (λ (word : Bor Text). word.now) l.all.items ≡ map spelled_word (take l.word-index l.fn.words)
