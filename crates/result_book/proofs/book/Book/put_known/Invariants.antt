use Rattle.std.proofs.Common.{◌≡◌, vec_len}
use Rattle.result_book.specs.Ranges.{enter_range}
use Rattle.result_book.proofs.book.Book.put_known.Given as goal

abbrev pub invariant-loop-verdict : goal.invariant-loop-verdict
invariant-loop-verdict l = enter_range l.fn.self 0 l.fn.verdicts.items ≡ enter_range l.self 0 l.verdicts.items

abbrev pub decreases-loop-verdict : goal.decreases-loop-verdict
decreases-loop-verdict l = vec_len l.verdicts
