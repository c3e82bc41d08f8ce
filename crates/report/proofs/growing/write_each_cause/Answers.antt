use Rattle.report.specs.ReportText.{cause_line}
use Rattle.report.proofs.Written.{line_next}
use Rattle.report.proofs.growing.write_each_cause.Goals as goal

pub loop-cause-preserved : goal.loop-cause-preserved
loop-cause-preserved g c =
    line_next (cause_line (g.N.Names.code_text c.args.names.now)) _ _ _ _ _ _ c.loop-cause-test.true c.cause-item.is c.in_ok-write_cause.ensures
    c.loop-cause.invariant
