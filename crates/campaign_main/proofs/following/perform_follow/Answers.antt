use Rattle.std.proofs.Common.{IfSome, Ok, Result, subst}
use Rattle.campaign_core.specs.Writes.{change}
use Rattle.command_words.specs.declared.words.Question.TheVariants.{Asks}
use Rattle.campaign_main.specs.Commands.{Refusal}
use Rattle.campaign_main.specs.Following.{IsNotFollowed}
use Rattle.campaign_main.specs.Questions.{Subject, TellsOfQuestion}
use Rattle.campaign_main.proofs.FollowLemmas.{none-followed}
use Rattle.campaign_main.proofs.QuestionLemmas.{for-subject}
use Rattle.campaign_main.proofs.following.perform_follow.Goals as goal

pub returns-in-Ok-clause-cause : goal.returns-in-Ok-clause-cause
returns-in-Ok-clause-cause g c = λ refused.
    let s : Subject = (c.in-Ok.given.campaign, c.in-Ok.given.outside) in
    let new = c.follow_on.new.faults in
    let P : Result Subject Refusal → Type 0 = λ r. IfSome (g.A.Read.remaining c.args.answers.now) (λ bytes. IsNotFollowed r bytes (change g.E.Sink c.args.faults.now new)) in
    let held = subst (λ old. IfSome (g.A.Read.remaining c.args.answers.now) (λ bytes. IsNotFollowed (Ok s) bytes (change g.E.Sink old new))) c.in-Ok.ensures.untouched (c.follow_on.ensures.cause refused) in
    for-subject _ s P c.in-Ok.ensures.ok held

pub returns-in-Ok-clause-told : goal.returns-in-Ok-clause-told
returns-in-Ok-clause-told g c =
    let new = c.follow_on.new.faults in
    subst (λ old. TellsOfQuestion c.follow_on.result (change g.E.Sink old new)) c.in-Ok.ensures.untouched c.follow_on.ensures.told

pub returns-in-Err-clause-cause : goal.returns-in-Err-clause-cause
returns-in-Err-clause-cause g c = λ refused. none-followed _ _ _ (c.in-Err.ensures.cause Asks _ refused)
