use Rattle.report.proofs.Written.{finding_next}
use Rattle.report.proofs.lines.write_findings.Goals as goal

pub loop-finding-preserved : goal.loop-finding-preserved
loop-finding-preserved g c = finding_next _ _ _ _ _ _ _ c.loop-finding-test.true c.finding-item.is c.in_ok-write_finding.ensures c.loop-finding.invariant
