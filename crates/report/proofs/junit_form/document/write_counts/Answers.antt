use Rattle.std.proofs.Common.{rules, append_assoc}
use Rattle.report.specs.junit_form.Junit.{suite_counts}
use Rattle.report.proofs.junit_form.document.write_counts.Goals as goal

pub returns : goal.returns
unfolding suite_counts
returns c = search (rules, append_assoc)
