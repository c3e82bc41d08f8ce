use Rattle.std.proofs.Common.{IfSome, Ok, Result, refl, subst}
use Rattle.campaign_core.specs.Writes.{change}
use Rattle.campaign_main.specs.Commands.{Refusal}
use Rattle.campaign_main.specs.Questions.{EndsQuestion, IsNotAnswered, NotesQuestion, Subject, TellsOfQuestion, subject_of}
use Rattle.campaign_main.proofs.EndLemmas.{refuses-whole, whole-map}
use Rattle.campaign_main.proofs.QuestionLemmas.{for-any, for-subject, refused-any}
use Rattle.campaign_main.proofs.questions.perform_outside.Goals as goal

pub returns-in-Ok-clause-end : goal.returns-in-Ok-clause-end
returns-in-Ok-clause-end g c =
    let w = change g.W.Sink c.args.output.now c.answer_on.new.output in
    let P : Result Subject Refusal → Type 0 = λ r. IfSome (g.A.Read.remaining c.args.answers.now) (λ b. EndsQuestion c.args.question.now r b c.answer_on.result w) in
    for-subject _ (c.in-Ok.given.campaign, c.in-Ok.given.outside) P c.in-Ok.ensures.ok c.answer_on.ensures.end

pub returns-in-Ok-clause-noted : goal.returns-in-Ok-clause-noted
returns-in-Ok-clause-noted g c =
    let s : Subject = (c.in-Ok.given.campaign, c.in-Ok.given.outside) in
    let new = c.answer_on.new.faults in
    let P : Result Subject Refusal → Type 0 =
    λ r. IfSome (g.A.Read.remaining c.args.answers.now) (λ b. NotesQuestion c.args.question.now r b (change g.E.Sink c.args.faults.now new)) in
    whole-map c.answer_on.result _ _
    (λ h.
    let held = subst (λ old. IfSome (g.A.Read.remaining c.args.answers.now) (λ b. NotesQuestion c.args.question.now (Ok s) b (change g.E.Sink old new))) c.in-Ok.ensures.untouched h in
    for-subject _ s P c.in-Ok.ensures.ok held)
    c.answer_on.ensures.noted

pub returns-in-Ok-clause-cause : goal.returns-in-Ok-clause-cause
returns-in-Ok-clause-cause g c = λ refused.
    let s : Subject = (c.in-Ok.given.campaign, c.in-Ok.given.outside) in
    let new = c.answer_on.new.faults in
    let P : Result Subject Refusal → Type 0 =
    λ r. IfSome (g.A.Read.remaining c.args.answers.now) (λ b. IsNotAnswered c.args.question.now r b (change g.E.Sink c.args.faults.now new)) in
    let held = subst (λ old. IfSome (g.A.Read.remaining c.args.answers.now) (λ b. IsNotAnswered c.args.question.now (Ok s) b (change g.E.Sink old new))) c.in-Ok.ensures.untouched
    (c.answer_on.ensures.cause refused) in
    for-subject _ s P c.in-Ok.ensures.ok held

pub returns-in-Ok-clause-told : goal.returns-in-Ok-clause-told
returns-in-Ok-clause-told g c =
    let new = c.answer_on.new.faults in
    subst (λ old. TellsOfQuestion c.answer_on.result (change g.E.Sink old new)) c.in-Ok.ensures.untouched c.answer_on.ensures.told

pub returns-in-Err-clause-end : goal.returns-in-Err-clause-end
returns-in-Err-clause-end g c =
    let old = c.args.output.now in
    let (line, ends) = c.in-Err.ensures.end in
    for-any (g.R.Read.remaining c.args.settings.now) (λ s. IfSome (g.A.Read.remaining c.args.answers.now) (λ b. EndsQuestion c.args.question.now (subject_of s) b c.in-Err.end (change g.W.Sink old old)))
    (λ s. refused-any c.args.question.now (subject_of s) (g.A.Read.remaining c.args.answers.now) line c.in-Err.end _ (change g.W.Sink old old) ends (refl, c.requires.output))

pub returns-in-Err-clause-noted : goal.returns-in-Err-clause-noted
returns-in-Err-clause-noted g c = let (line, ends) = c.in-Err.ensures.end in refuses-whole line c.in-Err.end _ _ ends

pub returns-in-Err-clause-cause : goal.returns-in-Err-clause-cause
returns-in-Err-clause-cause g c = c.in-Err.ensures.cause c.args.question.now _
