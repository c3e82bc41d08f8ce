use Rattle.std.proofs.Common.{rules, append_assoc}
use Rattle.report.proofs.brief.write_reported.Goals as goal

pub returns : goal.returns
returns g c = search (rules, append_assoc)
