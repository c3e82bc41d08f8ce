use Rattle.report.specs.json_form.Runs.{or_null, shown_value}
use Rattle.report.proofs.JsonFormLemmas.Lists.{value_next}
use Rattle.report.proofs.json_form.runs.write_each_run.Goals as goal

pub loop-run-preserved : goal.loop-run-preserved
loop-run-preserved c = value_next (or_null shown_value) _ _ _ _ _ _ _ c.loop-run-test.true c.run-item.is c.in_ok-write_shown_or_null.ensures c.loop-run.invariant
