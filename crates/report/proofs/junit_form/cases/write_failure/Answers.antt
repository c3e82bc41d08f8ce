use Rattle.std.proofs.Common.{rules, append_assoc}
use Rattle.report.specs.junit_form.Junit.{failure_text}
use Rattle.report.proofs.junit_form.cases.write_failure.Goals as goal

pub returns : goal.returns
unfolding failure_text
returns c = search (rules, append_assoc)
