use Rattle.report.specs.json_form.Document.{cause_value}
use Rattle.report.proofs.JsonFormLemmas.Lists.{value_next}
use Rattle.report.proofs.json_form.growth.write_each_cause.Goals as goal

pub loop-cause-preserved : goal.loop-cause-preserved
loop-cause-preserved g c =
    value_next (cause_value (g.N.Names.code_text c.args.names.now)) _ _ _ _ _ _ _ c.loop-cause-test.true c.cause-item.is c.in_ok-write_cause.ensures
    c.loop-cause.invariant
