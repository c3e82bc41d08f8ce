use Rattle.std.proofs.Common.{refl}
use Rattle.std.proofs.lemmas.Result.{IfErr-weaker, on_ok_weaker}
use Rattle.campaign_core.specs.CommandTexts.{IsFault, LeavesOnly}
use Rattle.campaign_core.specs.Forms.{report_in}
use Rattle.campaign_core.specs.Headline.{Campaign, campaign_in}
use Rattle.campaign_core.specs.Writes.{change}
use Rattle.campaign_core.proofs.Unlisted.{passed_as_it_is, short_of, unlisted_before}
use Rattle.campaign_core.proofs.running.campaign.Goals as goal

pub returns-clause-few : goal.returns-clause-few
returns-clause-few g c = on_ok_weaker c.write_campaign.result (λ _. c.in_ok-ran.ensures.ran.planned.few) c.write_campaign.ensures.minimal

pub returns-clause-fault : goal.returns-clause-fault
returns-clause-fault g c =
    let k : Campaign = campaign_in g.T.Target c.args.subject.now in
    let text = report_in c.args.form.now k in
    let w = change g.W.Sink c.args.sink.now c.write_campaign.new.sink in
    IfErr-weaker c.write_campaign.result (LeavesOnly text w) (IsFault k text w) (λ f h. short_of k text w f c.in_ok-ran.ensures.ran.planned.few h)
    c.write_campaign.ensures.fault

pub returns-in_err-ran-clause-fault : goal.returns-in_err-ran-clause-fault
returns-in_err-ran-clause-fault g c =
    let k : Campaign = campaign_in g.T.Target c.args.subject.now in
    let text = report_in c.args.form.now k in
    let w = change g.W.Sink c.args.sink.now c.args.sink.now in
    passed_as_it_is c.from_residual.result c.in_err-ran.field-0.0 c.from_residual.ensures.1 (IsFault k text w)
    (unlisted_before k text w c.in_err-ran.field-0.0 (refl, c.requires) c.in_err-ran.ensures.fault)
