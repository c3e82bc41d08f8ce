use Rattle.std.proofs.Common.{◌≡◌, length}
use Rattle.result_book.specs.Ranges.{enter_range}
use Rattle.result_book.proofs.book.put_range.Given as goal

abbrev pub invariant-loop-result : goal.invariant-loop-result
invariant-loop-result g l = enter_range l.fn.book l.fn.range.first l.fn.range.verdicts ≡ enter_range l.book l.range.first l.range.verdicts

abbrev pub decreases-loop-result : goal.decreases-loop-result
decreases-loop-result g l = length l.range.verdicts
