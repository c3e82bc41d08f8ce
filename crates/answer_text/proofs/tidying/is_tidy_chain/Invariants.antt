use Rattle.std.proofs.Common.{◌≡◌, drop}
use Rattle.answer_text.specs.inside.Tidy.{is_tidy_chain, is_tidy_from}
use Rattle.answer_text.proofs.tidying.is_tidy_chain.Given as goal

abbrev pub invariant-loop-term : goal.invariant-loop-term
invariant-loop-term l = is_tidy_from l.last (drop l.term-index l.rest) ≡ is_tidy_chain l.terms
