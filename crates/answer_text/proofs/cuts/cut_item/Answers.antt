use Rattle.std.proofs.Common.{◌∙◌, ap, arith, eqb}
use Rattle.std.specs.Prelude.{position}
use Rattle.answer_text.proofs.Lines.{boundary_behind, boundary_here, cut_none, cut_parts}
use Rattle.answer_text.proofs.cuts.cut_item.Goals as goal

pub returns-in-None : goal.returns-in-None
returns-in-None c = cut_none 59 c.args.text.now (c.in-None.ensures ∙ ap (position (λ b. eqb b 59)) c.as_bytes.ensures.value)

pub range-requires-clause-end_boundary : goal.range-requires-clause-end_boundary
range-requires-clause-end_boundary c = boundary_here 59 c.args.text.now c.in-Some.end (omega arith) (c.in-Some.ensures ∙ ap (position (λ b. eqb b 59)) c.as_bytes.ensures.value)

pub range_from-requires : goal.range_from-requires
range_from-requires c = λ _. boundary_behind 59 c.args.text.now c.in-Some.end c.utf8.text (omega arith) (c.in-Some.ensures ∙ ap (position (λ b. eqb b 59)) c.as_bytes.ensures.value)

pub returns-in-Some : goal.returns-in-Some
returns-in-Some c =
    cut_parts 59 c.args.text.now c.in-Some.end c.range.result.now c.range_from.result.now c.range.ensures.value c.range_from.ensures.value
    (c.in-Some.ensures ∙ ap (position (λ b. eqb b 59)) c.as_bytes.ensures.value)
