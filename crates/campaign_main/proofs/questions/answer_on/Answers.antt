use Rattle.std.proofs.Common.{Err, List, Ok, ap, inl, refl, ℕ}
use Rattle.campaign_main.specs.Ends.{IsNoted}
use Rattle.campaign_main.specs.QuestionNotes.{question_notes}
use Rattle.campaign_main.specs.Questions.{EndsAnswered, IsNotAnswered}
use Rattle.campaign_main.proofs.EndLemmas.{read-whole, refuses-whole, whole-map}
use Rattle.campaign_main.proofs.QuestionLemmas.{answered-leaves, answers-read-fault-cause, for-any, refused-question, refused-why, some-why, answers-read-fault-tells, whole-noted}
use Rattle.campaign_core.specs.Writes.{change}
use Rattle.campaign_main.proofs.questions.answer_on.Goals as goal

pub returns-in-Ok-clause-end : goal.returns-in-Ok-clause-end
returns-in-Ok-clause-end g c =
    let W = g.W.Sink in
    let new = c.answer_by.new.output in
    let P : List ℕ → Type 0 = λ b. EndsAnswered c.args.question.now (c.args.campaign.now.settings.now, c.args.campaign.now.outside.now) b c.answer_by.result (change W c.args.output.now new) in
    read-whole _ _ _ P c.as_slice.ensures.value c.in-Ok.ensures.ok c.answer_by.ensures.end

pub returns-in-Ok-clause-cause : goal.returns-in-Ok-clause-cause
returns-in-Ok-clause-cause g c =
    λ refused.
    let E = g.E.Sink in
    let new = c.answer_by.new.faults in
    let P : List ℕ → Type 0 = λ b. IsNotAnswered c.args.question.now (Ok (c.args.campaign.now.settings.now, c.args.campaign.now.outside.now)) b (change E c.args.faults.now new) in
    read-whole _ _ _ P c.as_slice.ensures.value c.in-Ok.ensures.ok (inl (refused-why _ _ _ _ refused c.answer_by.ensures.told))

pub returns-in-Ok-clause-noted : goal.returns-in-Ok-clause-noted
returns-in-Ok-clause-noted g c =
    let E = g.E.Sink in
    let new = c.answer_by.new.faults in
    let P : List ℕ → Type 0 = λ b. IsNoted (question_notes c.args.question.now c.args.campaign.now.settings.now c.args.campaign.now.outside.now b) (change E c.args.faults.now new) in
    whole-map c.answer_by.result _ _ (λ h. read-whole _ _ _ P c.as_slice.ensures.value c.in-Ok.ensures.ok h) (whole-noted _ _ c.answer_by.result _ c.answer_by.ensures.told)

pub returns-in-Err-clause-noted : goal.returns-in-Err-clause-noted
returns-in-Err-clause-noted g c = refuses-whole _ c.end_unreadable_answers.result _ _ c.end_unreadable_answers.ensures.end

pub returns-in-Ok-clause-output : goal.returns-in-Ok-clause-output
returns-in-Ok-clause-output g c =
    let W = g.W.Sink in
    let w = change W c.args.output.now c.answer_by.new.output in
    answered-leaves c.args.question.now (c.args.campaign.now.settings.now, c.args.campaign.now.outside.now) c.as_slice.result.now w c.answer_by.result c.answer_by.ensures.end

pub returns-in-Ok-clause-told : goal.returns-in-Ok-clause-told
returns-in-Ok-clause-told g c = some-why c.args.question.now (Ok (c.args.campaign.now.settings.now, c.args.campaign.now.outside.now)) c.as_slice.result.now _ c.answer_by.result _ c.answer_by.ensures.told

pub returns-in-Err-clause-end : goal.returns-in-Err-clause-end
returns-in-Err-clause-end g c =
    for-any _ _ (λ b. refused-question c.args.question.now (Ok (c.args.campaign.now.settings.now, c.args.campaign.now.outside.now)) b _ c.end_unreadable_answers.result _ _ c.end_unreadable_answers.ensures.end (refl, c.requires.output))

pub returns-in-Err-clause-cause : goal.returns-in-Err-clause-cause
returns-in-Err-clause-cause g c =
    λ refused.
    answers-read-fault-cause c.args.question.now (c.args.campaign.now.settings.now, c.args.campaign.now.outside.now) _ c.in-Err.fault c.end_unreadable_answers.result _ (λ e. c.in-Err.ensures.too_long (ap (λ f. Err f) e)) c.end_unreadable_answers.ensures.end c.end_unreadable_answers.ensures.memory refused

pub returns-in-Err-clause-told : goal.returns-in-Err-clause-told
returns-in-Err-clause-told g c = answers-read-fault-tells c.end_unreadable_answers.result _ c.in-Err.fault c.end_unreadable_answers.ensures.end c.end_unreadable_answers.ensures.memory
