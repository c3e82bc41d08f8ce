use Rattle.std.proofs.Common.{◌∙◌, Global, String, ap, string_bytes}
use Rattle.campaign_core.specs.Headline.{campaign_in}
use Rattle.campaign_core.specs.Writes.{change}
use Rattle.campaign_core.specs.CommandTexts.{explained}
use Rattle.campaign_main.specs.Commands.{explain_answer}
use Rattle.campaign_main.proofs.AnswerLemmas.{explain-is, short-up, taken-done, taken-short, tried_verdict}
use Rattle.campaign_main.specs.declared.fault.CommandFault.TheVariants.{Campaign}
use Rattle.campaign_main.proofs.command.explain_which.Goals as goal

pub returns : goal.returns
returns g c =
    let w = change g.W.Sink c.args.output.now c.explain_one.new.sink in
    let s = c.args.subject.now in
    let campaign = campaign_in g.T.Target s in
    let end = g.D.RunEnd.lines c.args.end.now s.target.now s.workload.now in
    taken-done (explain_answer end campaign) (explained end campaign) (tried_verdict campaign) campaign.points (explain-is campaign end) _
    (c.in_ok-stream.stream, c.in_ok-stream.scenario) c.in_ok-stream.ensures.ok w _ _ _ c.in_ok-verdict.ensures.text c.judged.ensures.conclusion c.in_ok-verdict.ensures.verdict
    (ap (λ (lines : String Global). string_bytes lines) c.judged.ensures.notes ∙ c.in_ok-stream.ensures.notes)

pub returns-in_err-verdict : goal.returns-in_err-verdict
returns-in_err-verdict g c =
    let w = change g.W.Sink c.args.output.now c.explain_one.new.sink in
    let s = c.args.subject.now in
    let campaign = campaign_in g.T.Target s in
    let end = g.D.RunEnd.lines c.args.end.now s.target.now s.workload.now in
    short-up _ w _ (Campaign c.in_err-verdict.field-0.0) c.from_residual-in_err-verdict.ensures.1
    (taken-short (explain_answer end campaign) (explained end campaign) (tried_verdict campaign) campaign.points (explain-is campaign end) _
    (c.in_ok-stream.stream, c.in_ok-stream.scenario) c.in_ok-stream.ensures.ok w _ c.in_err-verdict.ensures.fault)
