use Rattle.result_book.proofs.EachCodeLemmas.{first_of, firsts_of, head_of}
use Rattle.result_book.proofs.laws.first_failures_are_the_least.Goals as goal

pub returns-clause-first : goal.returns-clause-first
returns-clause-first c = first_of

pub returns-clause-each : goal.returns-clause-each
returns-clause-each c = firsts_of

pub returns-clause-head : goal.returns-clause-head
returns-clause-head c = head_of
