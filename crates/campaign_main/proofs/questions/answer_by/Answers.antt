use Rattle.std.proofs.Common.{List, refl, subst, ℕ}
use Rattle.campaign_core.specs.Writes.{change}
use Rattle.campaign_main.specs.Ends.{EndsAs, TellsAs}
use Rattle.campaign_main.specs.Questions.{written_for}
use Rattle.campaign_main.proofs.QuestionLemmas.{answer-ends, answer-tells, fault-ends, fault-tells}
use Rattle.campaign_main.proofs.questions.answer_by.Goals as goal

pub returns-in-Ok-clause-end : goal.returns-in-Ok-clause-end
returns-in-Ok-clause-end g c =
    let a = c.in-Ok.answer in
    let w = change g.W.Sink c.args.output.now c.write_answer.new.output in
    answer-ends c.args.question.now (c.args.campaign.now.settings.now, c.args.campaign.now.outside.now) c.args.answers.now a.text.items a.found c.in-Ok.ensures.text c.write_answer.result w
    (subst (λ (notes : List ℕ). EndsAs c.write_answer.result (written_for c.args.question.now a.text.items a.found notes) w) c.in-Ok.ensures.notes c.write_answer.ensures.end)

pub returns-in-Ok-clause-told : goal.returns-in-Ok-clause-told
returns-in-Ok-clause-told g c =
    let a = c.in-Ok.answer in
    let w = change g.E.Sink c.args.faults.now c.write_answer.new.faults in
    answer-tells c.args.question.now a.text.items _ a.found _ c.write_answer.result w
    (subst (λ (notes : List ℕ). TellsAs c.write_answer.result (written_for c.args.question.now a.text.items a.found notes) w) c.in-Ok.ensures.notes c.write_answer.ensures.told)

pub returns-in-Err-clause-end : goal.returns-in-Err-clause-end
returns-in-Err-clause-end g c =
    fault-ends c.args.question.now (c.args.campaign.now.settings.now, c.args.campaign.now.outside.now) c.args.answers.now (change g.E.Sink c.args.faults.now c.end_question.new.faults) _ (refl, c.requires.output)
    c.in-Err.fault c.end_question.result c.in-Err.ensures.fault c.end_question.ensures

pub returns-in-Err-clause-told : goal.returns-in-Err-clause-told
returns-in-Err-clause-told g c =
    fault-tells c.args.question.now (c.args.campaign.now.settings.now, c.args.campaign.now.outside.now) c.args.answers.now _ _ c.in-Err.fault c.end_question.result c.in-Err.ensures.fault c.end_question.ensures
