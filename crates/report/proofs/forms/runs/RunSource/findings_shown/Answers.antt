use Rattle.std.proofs.Common.{Option, ap, ◌∙◌}
use Rattle.report.specs.Reports.{FindingFacts}
use Rattle.report.specs.declared.json_form.runs.ShownRun.{ShownRun}
use Rattle.report.specs.forms.Runs.{finding_shown}
use Rattle.report.proofs.FormsLemmas.EachShown.{one_more}
use Rattle.report.proofs.forms.runs.RunSource.findings_shown.Goals as goal

pub loop-finding-preserved : goal.loop-finding-preserved
loop-finding-preserved g c =
    let run : FindingFacts → Option ShownRun = finding_shown (g.N.Names.points c.args.self.now.names.now) (g.T.Teller.told_runs c.args.self.now.teller.now) c.args.self.now.shown.now.grown in
    one_more run c.args.findings.now c.loop-finding.finding-index _ _ _ _ c.loop-finding-test.true c.in_ok-push.ensures.items c.loop-finding.invariant c.finding-item.is
    (c.in_ok-run.ensures ∙ ap run c.finding.view_is)
