use Rattle.std.proofs.Common.{ℕ, List}
use Rattle.outside_campaign.specs.Recorded.{Records, depth_of}
use Rattle.outside_campaign.specs.declared.with_depth.fault.QuestionFault.{QuestionFault}
use Rattle.outside_campaign.proofs.WithDepthLemmas.Asking.{err_is}
use Rattle.campaign_main.specs.Questions.{IsUnansweredTo, Subject}
use Rattle.campaign_main.specs.inside.OnPlans.{question_on}
use Rattle.campaign_main.proofs.PlanQuestions.{yet-unanswered}
use Rattle.campaign_main.proofs.answering.text_on.Goals as goal

pub returns-in_err-text-in-Asks-clause-fault : goal.returns-in_err-text-in-Asks-clause-fault
returns-in_err-text-in-Asks-clause-fault c =
    let s : Subject = (c.args.campaign.now.settings.now, c.args.campaign.now.outside.now) in
    let r = c.args.recorded in
    let why = c.in_err-text-in-Asks.field-0.0 in
    err_is c.from_residual.result why
    (λ (w : QuestionFault). (answers : List ℕ) → Records s.1 s.0 answers r → IsUnansweredTo (depth_of r) (question_on c.args.question) s answers w) c.from_residual.ensures.1
    (λ answers records. yet-unanswered (depth_of r) c.args.question s answers why (c.in_err-text-in-Asks.ensures.fault answers records))
