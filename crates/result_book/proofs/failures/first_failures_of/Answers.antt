use Rattle.std.proofs.Common.{◌∙◌}
use Rattle.result_book.proofs.EachCodeLemmas.{collected_in, at_end}
use Rattle.result_book.proofs.failures.first_failures_of.Goals as goal

pub returns : goal.returns
returns c = at_end _ _ c.loop-number.number c.args.slots.now c.loop-number-test.false c.loop-number.invariant ∙ collected_in c.args.slots.now
