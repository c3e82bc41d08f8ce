use Rattle.result_book.proofs.SlotLemmas.{whole_full, first_full, present_full}
use Rattle.result_book.proofs.EachCodeLemmas.{firsts_full}
use Rattle.result_book.proofs.laws.full_books_tell_their_verdicts.Goals as goal

pub returns-clause-whole : goal.returns-clause-whole
returns-clause-whole c = whole_full

pub returns-clause-first : goal.returns-clause-first
returns-clause-first c = first_full 0

pub returns-clause-firsts : goal.returns-clause-firsts
returns-clause-firsts c = firsts_full

pub returns-clause-all : goal.returns-clause-all
returns-clause-all c = present_full
