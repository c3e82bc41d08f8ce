use Rattle.std.proofs.Common.{◌≤◌, length, ◌∙◌, arith}
use Rattle.result_book.proofs.EachCodeLemmas.{collected_in, at_end}
use Rattle.result_book.proofs.book.Book.first_failures.Goals as goal

pub returns : goal.returns
returns c =
    let past : length c.args.self.now ≤ c.loop-number.number = omega (arith, c.loop-number-test.false, c.len-number-end.ensures.many) in
    at_end _ _ c.loop-number.number c.args.self.now past c.loop-number.invariant ∙ collected_in c.args.self.now
