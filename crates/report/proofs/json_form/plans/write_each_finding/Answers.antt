use Rattle.report.specs.json_form.Document.{finding_value}
use Rattle.report.proofs.JsonFormLemmas.Lists.{value_next}
use Rattle.report.proofs.json_form.plans.write_each_finding.Goals as goal

pub loop-finding-preserved : goal.loop-finding-preserved
loop-finding-preserved g c =
    value_next (finding_value (g.N.Names.code_text c.args.names.now)) _ _ _ _ _ _ _ c.loop-finding-test.true c.finding-item.is
    c.in_ok-write_finding.ensures c.loop-finding.invariant
