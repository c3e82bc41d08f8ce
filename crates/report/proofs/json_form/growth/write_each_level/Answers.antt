use Rattle.report.specs.json_form.Values.{whole}
use Rattle.report.proofs.JsonFormLemmas.Lists.{value_next}
use Rattle.report.proofs.json_form.growth.write_each_level.Goals as goal

pub loop-plans-preserved : goal.loop-plans-preserved
loop-plans-preserved c = value_next whole _ _ _ _ _ _ _ c.loop-plans-test.true c.from.ensures c.in_ok-write_whole.ensures c.loop-plans.invariant
