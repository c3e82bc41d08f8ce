use Rattle.result_book.proofs.FailureLemmas.{least_slot}
use Rattle.result_book.proofs.EachCodeLemmas.{firsts_in, head_in}
use Rattle.result_book.proofs.laws.books_tell_the_least_failures.Goals as goal

pub returns-clause-first : goal.returns-clause-first
returns-clause-first c = least_slot

pub returns-clause-each : goal.returns-clause-each
returns-clause-each c = firsts_in

pub returns-clause-head : goal.returns-clause-head
returns-clause-head c = head_in
