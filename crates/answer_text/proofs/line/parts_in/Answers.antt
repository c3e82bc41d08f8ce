use Rattle.std.proofs.Common.{◌∙◌, ap, Some, None}
use Rattle.scenario_grammar.specs.Words.{cut}
use Rattle.answer_text.proofs.AnswerLaws.{parts_not_utf8, parts_are}
use Rattle.answer_text.proofs.line.parts_in.Goals as goal

pub returns-in_default : goal.returns-in_default
returns-in_default c = parts_not_utf8 c.args.line.now c.in_default.ensures.cases.0

pub returns-in-Some : goal.returns-in-Some
returns-in-Some c = parts_are c.args.line.now (Some (c.in-Some.word.now, c.in-Some.text.now)) c.in-Ok.ensures.cases.1 (c.in-Some.ensures ∙ ap (cut 9) c.in-Ok.ensures.cases.0)

pub returns-in-None : goal.returns-in-None
returns-in-None c = parts_are c.args.line.now None c.in-Ok.ensures.cases.1 (c.in-None.ensures ∙ ap (cut 9) c.in-Ok.ensures.cases.0)
