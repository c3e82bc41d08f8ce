use Rattle.report.specs.BriefText.{code_count}
use Rattle.report.proofs.ReportedLines.{element_on}
use Rattle.report.proofs.brief.write_code_counts.Goals as goal

pub loop-finding-preserved : goal.loop-finding-preserved
loop-finding-preserved g c =
    element_on (code_count (g.N.Names.code_text c.args.names.now) c.args.verdicts.now) _ _ _ _ _ _ c.loop-finding-test.true c.finding-item.is
    c.in_ok-write_code_count.ensures c.loop-finding.invariant
