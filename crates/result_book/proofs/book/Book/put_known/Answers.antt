use Rattle.std.proofs.Common.{◌≡◌, ◌+◌, length, ap, sym, ◌∙◌, option_to_list, ◌++◌, arith}
use Rattle.result_book.specs.Slots.{enter}
use Rattle.result_book.specs.Ranges.{enter_range}
use Rattle.result_book.proofs.RangeLemmas.{enter_range_last}
use Rattle.result_book.proofs.book.Book.put_known.Goals as goal

pub loop-verdict-preserved : goal.loop-verdict-preserved
loop-verdict-preserved c =
    let rest = c.pop.new.self.items in
    let slots = c.loop-verdict.self in
    let verdict = c.in-Some.verdict in
    let number : 0 + length rest ≡ c.len.result = omega (arith, c.len.ensures, c.pop.new.self.ok.0) in
    c.loop-verdict.invariant ∙ ap (enter_range slots 0) (c.pop.ensures.items ∙ ap (λ o. rest ++ option_to_list o) c.in-Some.is)
    ∙ enter_range_last slots 0 rest verdict ∙ ap (λ n. enter_range (enter slots n verdict) 0 rest) number ∙ ap (λ s. enter_range s 0 rest) (sym c.put_free.ensures)
