use Rattle.std.proofs.Common.{◌∙◌, Global, String, ap, string_bytes}
use Rattle.campaign_core.specs.Headline.{campaign_in}
use Rattle.campaign_core.specs.Writes.{change}
use Rattle.campaign_core.specs.CommandTexts.{reduce_text}
use Rattle.campaign_core.specs.Headline.{say}
use Rattle.campaign_main.specs.Commands.{reduce_answer}
use Rattle.campaign_main.proofs.AnswerLemmas.{reduce-is, short-up, taken-done, taken-short}
use Rattle.campaign_main.specs.declared.fault.CommandFault.TheVariants.{Campaign}
use Rattle.campaign_main.proofs.command.reduce_which.Goals as goal

pub returns-clause-text : goal.returns-clause-text
returns-clause-text g c =
    let w = change g.W.Sink c.args.output.now c.reduce_one.new.sink in
    let campaign = campaign_in g.T.Target c.args.subject.now in
    taken-done (reduce_answer campaign) (reduce_text campaign) (say campaign) campaign.points (reduce-is campaign) _
    (c.in_ok-stream.stream, c.in_ok-stream.scenario) c.in_ok-stream.ensures.ok w _ _ _ c.in_ok-verdict.ensures.text c.judged.ensures.conclusion c.in_ok-verdict.ensures.verdict
    (ap (λ (lines : String Global). string_bytes lines) c.judged.ensures.notes ∙ c.in_ok-stream.ensures.notes)

pub returns-in_err-verdict-clause-text : goal.returns-in_err-verdict-clause-text
returns-in_err-verdict-clause-text g c =
    let w = change g.W.Sink c.args.output.now c.reduce_one.new.sink in
    let campaign = campaign_in g.T.Target c.args.subject.now in
    short-up _ w _ (Campaign c.in_err-verdict.field-0.0) c.from_residual-in_err-verdict.ensures.1
    (taken-short (reduce_answer campaign) (reduce_text campaign) (say campaign) campaign.points (reduce-is campaign) _
    (c.in_ok-stream.stream, c.in_ok-stream.scenario) c.in_ok-stream.ensures.ok w _ c.in_err-verdict.ensures.fault)
