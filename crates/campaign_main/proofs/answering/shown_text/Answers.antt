use Rattle.std.proofs.Common.{ℕ, List}
use Rattle.outside_campaign.specs.Recorded.{Records, depth_of}
use Rattle.outside_campaign.specs.declared.with_depth.fault.QuestionFault.{QuestionFault}
use Rattle.outside_campaign.proofs.WithDepthLemmas.Asking.{err_is}
use Rattle.campaign_main.specs.Questions.{RefusesShown, Subject, report_form}
use Rattle.campaign_main.proofs.QuestionLemmas.{yet-shown}
use Rattle.campaign_main.proofs.answering.shown_text.Goals as goal

pub returns-in_err-text-in-None-clause-fault : goal.returns-in_err-text-in-None-clause-fault
returns-in_err-text-in-None-clause-fault c =
    let s : Subject = (c.args.campaign.now.settings.now, c.args.campaign.now.outside.now) in
    let r = c.args.recorded in
    let why = c.in_err-text-in-None.field-0.0 in
    err_is c.from_residual-in_err-text-in-None.result why
    (λ (w : QuestionFault). (answers : List ℕ) → Records s.1 s.0 answers r → RefusesShown (depth_of r) (report_form c.args.shown) s answers w) c.from_residual-in_err-text-in-None.ensures.1
    (λ answers records. yet-shown (depth_of r) (report_form c.args.shown) s answers why (c.in_err-text-in-None.ensures.fault answers records))
