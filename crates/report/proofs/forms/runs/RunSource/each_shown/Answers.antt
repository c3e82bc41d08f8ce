use Rattle.std.proofs.Common.{Option, ap, ◌∙◌}
use Rattle.report.specs.Reports.{CauseFacts}
use Rattle.report.specs.declared.json_form.runs.ShownRun.{ShownRun}
use Rattle.report.specs.forms.Runs.{cause_shown}
use Rattle.report.proofs.FormsLemmas.EachShown.{one_more}
use Rattle.report.proofs.forms.runs.RunSource.each_shown.Goals as goal

pub loop-cause-preserved : goal.loop-cause-preserved
loop-cause-preserved g c =
    let run : CauseFacts → Option ShownRun = cause_shown (g.N.Names.points c.args.self.now.names.now) (g.T.Teller.told_runs c.args.self.now.teller.now) c.args.self.now.shown.now.grown in
    one_more run c.args.causes.now c.loop-cause.cause-index _ _ _ _ c.loop-cause-test.true c.in_ok-push.ensures.items c.loop-cause.invariant c.cause-item.is
    (c.in_ok-run.ensures ∙ ap run c.cause.view_is)
