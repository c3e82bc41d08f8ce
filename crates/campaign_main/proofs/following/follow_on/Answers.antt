use Rattle.std.proofs.Common.{◌∙◌, Err, Ok, ap}
use Rattle.campaign_core.specs.Writes.{change}
use Rattle.command_words.specs.declared.words.Question.TheVariants.{Asks}
use Rattle.campaign_main.specs.declared.following.FollowFault.TheVariants as follow
use Rattle.campaign_main.specs.Questions.{subject_in}
use Rattle.campaign_main.proofs.FollowLemmas.{by-question, failed-cause, failed-ends, failed-tells, kept-ends, not-followed}
use Rattle.campaign_main.proofs.QuestionLemmas.{answers-read-fault-cause, answers-read-fault-tells}
use Rattle.campaign_main.proofs.following.follow_on.Goals as goal

pub returns-in-Ok-clause-end : goal.returns-in-Ok-clause-end
returns-in-Ok-clause-end g c =
    let came = c.in-Ok.ensures.follow in
    kept-ends (subject_in c.args.campaign.now) _ _ came.0 came.1 (change g.W.Sink c.args.output.now c.follow_answers.new.output) c.in-Ok.notes came.2

pub returns-in-Err-Question-clause-end : goal.returns-in-Err-Question-clause-end
returns-in-Err-Question-clause-end g c =
    let came = c.in-Err-Question.ensures.follow in
    failed-ends (subject_in c.args.campaign.now) _ _ came.0 came.1 (change g.W.Sink c.args.output.now c.follow_answers.new.output) (change g.E.Sink c.args.faults.now c.end_question.new.faults)
    c.in-Err-Question.fault (by-question (subject_in c.args.campaign.now) _ _ (change g.W.Sink c.args.output.now c.follow_answers.new.output) _ _ c.in-Err-Question.field-0-is came.2) c.end_question.result c.end_question.ensures

pub returns-in-Err-Question-clause-cause : goal.returns-in-Err-Question-clause-cause
returns-in-Err-Question-clause-cause g c =
    let came = c.in-Err-Question.ensures.follow in
    failed-cause (subject_in c.args.campaign.now) _ _ came.0 came.1 (change g.W.Sink c.args.output.now c.follow_answers.new.output) (change g.E.Sink c.args.faults.now c.end_question.new.faults)
    c.in-Err-Question.fault (by-question (subject_in c.args.campaign.now) _ _ (change g.W.Sink c.args.output.now c.follow_answers.new.output) _ _ c.in-Err-Question.field-0-is came.2) c.end_question.result c.end_question.ensures

pub returns-in-Err-Question-clause-told : goal.returns-in-Err-Question-clause-told
returns-in-Err-Question-clause-told g c =
    let came = c.in-Err-Question.ensures.follow in
    failed-tells (subject_in c.args.campaign.now) _ _ came.0 came.1 (change g.W.Sink c.args.output.now c.follow_answers.new.output) (change g.E.Sink c.args.faults.now c.end_question.new.faults)
    c.in-Err-Question.fault (by-question (subject_in c.args.campaign.now) _ _ (change g.W.Sink c.args.output.now c.follow_answers.new.output) _ _ c.in-Err-Question.field-0-is came.2) c.end_question.result c.end_question.ensures

pub returns-in-Err-Unread-clause-cause : goal.returns-in-Err-Unread-clause-cause
returns-in-Err-Unread-clause-cause g c = λ refused.
    let s = subject_in c.args.campaign.now in
    let v = change g.E.Sink c.args.faults.now c.end_unreadable_answers.new.faults in
    let f = c.in-Err-Unread.fault in
    not-followed (g.A.Read.remaining c.args.answers.now) (Ok s) v
    (answers-read-fault-cause Asks s _ f c.end_unreadable_answers.result v (λ e. c.in-Err-Unread.ensures.too_long (ap (λ x. Err x) (c.in-Err-Unread.field-0-is ∙ ap (λ x. follow.Unread x) e))) c.end_unreadable_answers.ensures.end
    c.end_unreadable_answers.ensures.memory refused)

pub returns-in-Err-Unread-clause-told : goal.returns-in-Err-Unread-clause-told
returns-in-Err-Unread-clause-told g c =
    answers-read-fault-tells c.end_unreadable_answers.result _ c.in-Err-Unread.fault c.end_unreadable_answers.ensures.end c.end_unreadable_answers.ensures.memory
