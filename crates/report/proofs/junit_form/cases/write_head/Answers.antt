use Rattle.std.proofs.Common.{rules, append_assoc}
use Rattle.report.specs.junit_form.Junit.{case_head}
use Rattle.report.proofs.junit_form.cases.write_head.Goals as goal

pub returns : goal.returns
unfolding case_head
returns c = search (rules, append_assoc)
