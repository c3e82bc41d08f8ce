use Rattle.std.proofs.Common.{ap, sym, ◌∙◌}
use Rattle.result_book.specs.Ranges.{enter_range}
use Rattle.result_book.proofs.RangeLemmas.{enter_popped}
use Rattle.result_book.proofs.book.put_range.Goals as goal

pub loop-result-preserved : goal.loop-result-preserved
loop-result-preserved g c =
    let rest = c.pop.new.self in
    c.loop-result.invariant ∙ enter_popped c.loop-result.book c.loop-result.range rest c.in-Some.result c.in-Some.ensures ∙ ap (λ s. enter_range s rest.first rest.verdicts) (sym c.put.ensures.entered)
