use Rattle.std.proofs.Common.{List, refl, subst, ℕ}
use Rattle.campaign_core.specs.Writes.{change}
use Rattle.command_words.specs.declared.words.Question.TheVariants.{Asks}
use Rattle.campaign_main.specs.Questions.{subject_in}
use Rattle.campaign_main.specs.inside.Looks.{LookFails, TellFails}
use Rattle.campaign_main.proofs.FollowLemmas.{ask-fails, passed-up, tell-fails, without-found}
use Rattle.campaign_main.proofs.QuestionLemmas.{may-lack-memory, never-cut}
use Rattle.campaign_main.proofs.following.look.Goals as goal

pub returns-in_err-answer-clause-fault : goal.returns-in_err-answer-clause-fault
returns-in_err-answer-clause-fault g c =
    let s = subject_in c.args.campaign.now in
    let keys = c.args.told.now.lines.keys in
    let f = c.in_err-answer.field-0.0 in
    let w = change g.W.Sink c.args.output.now c.args.output.now in
    passed-up c.from_residual.result f c.from_residual.ensures.1 (LookFails s c.args.answers.now keys w)
    (ask-fails s c.args.answers.now keys w (refl, c.requires.output) (λ n h. never-cut s c.args.answers.now Asks n h) f c.in_err-answer.ensures.fault)

pub returns-in_err-tell-clause-fault : goal.returns-in_err-tell-clause-fault
returns-in_err-tell-clause-fault g c =
    let s = subject_in c.args.campaign.now in
    let keys = c.args.told.now.lines.keys in
    let text = c.in_ok-answer.answer.text.items in
    let f = c.in_err-tell.field-0.0 in
    let w = change g.W.Sink c.args.output.now c.tell.new.output in
    let answer = without-found s c.args.answers.now text c.in_ok-answer.answer.found c.in_ok-answer.ensures.text in
    let fails = subst (λ (l : List ℕ). TellFails keys l w f) c.as_slice.ensures.value c.in_err-tell.ensures.fault in
    passed-up c.from_residual-in_err-tell.result f c.from_residual-in_err-tell.ensures.1 (LookFails s c.args.answers.now keys w)
    (tell-fails s c.args.answers.now keys w text answer (may-lack-memory s c.args.answers.now) f fails)
