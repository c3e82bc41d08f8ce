use Rattle.scenario_grammar.proofs.Numbers.{too_large}
use Rattle.std.proofs.Common.{arith, sym, ◌∙◌}
use Rattle.answer_text.proofs.hits.number_in.Goals as goal

pub returns-in-Err : goal.returns-in-Err
returns-in-Err c = too_large 65536 c.args.text.now c.in-Err.field-0 (omega arith) (sym c.is_number.ensures ∙ c.if-not-is_number.false) c.in-Err.ensures.value.0
