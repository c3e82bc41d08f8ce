use Rattle.std.proofs.Common.{◌≡◌, [], drop}
use Rattle.result_book.proofs.EachCodeLemmas.{collected, failures_from}
use Rattle.result_book.proofs.book.Book.first_failures.Given as goal

abbrev pub invariant-loop-number : goal.invariant-loop-number
invariant-loop-number l = collected l.firsts.items (failures_from l.number (drop l.number l.self)) ≡ collected [] (failures_from 0 l.self)
