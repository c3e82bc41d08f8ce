use Rattle.std.proofs.Common.{◌∙◌, ap, refl}
use Rattle.campaign_core.specs.Headline.{campaign_in}
use Rattle.campaign_core.specs.Writes.{change}
use Rattle.campaign_core.proofs.Unlisted.{short_of}
use Rattle.campaign_main.specs.declared.fault.CommandFault.TheVariants.{Campaign}
use Rattle.campaign_main.specs.Notes.{is_doubted}
use Rattle.campaign_main.proofs.AnswerLemmas.{run-done, run-short, run-unlisted, short-up}
use Rattle.campaign_main.proofs.command.run_plans.Goals as goal

pub returns-clause-text : goal.returns-clause-text
returns-clause-text g c =
    let w = change g.W.Sink c.args.output.now c.report_plans.new.output in
    run-done _ _ c.args.strict w _ _ _ _ _ c.in_ok-ran.ensures.ran.planned.few c.in_ok-ending.ensures.text
    c.concluded-conclusion.ensures c.is_some.ensures c.in_ok-ending.ensures.first
    (c.is_doubted-doubted.ensures ∙ ap (is_doubted c.args.strict) c.as_str.ensures.value) c.in_ok-notes.ensures

pub returns-in_err-ran-clause-text : goal.returns-in_err-ran-clause-text
returns-in_err-ran-clause-text g c =
    let w = change g.W.Sink c.args.output.now c.args.output.now in
    short-up _ w _ (Campaign c.in_err-ran.field-0.0) c.from_residual.ensures.1
    (run-unlisted _ _ c.args.strict w _ (refl, c.requires) c.in_err-ran.ensures.fault)

pub returns-in_err-ending-clause-text : goal.returns-in_err-ending-clause-text
returns-in_err-ending-clause-text g c =
    let w = change g.W.Sink c.args.output.now c.report_plans.new.output in
    short-up _ w _ (Campaign c.in_err-ending.field-0.0) c.from_residual-in_err-ending.ensures.1
    (run-short _ _ c.args.strict w _ (short_of (campaign_in g.T.Target c.args.subject.now) _ w _ c.in_ok-ran.ensures.ran.planned.few c.in_err-ending.ensures.fault))
