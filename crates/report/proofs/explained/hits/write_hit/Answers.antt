use Rattle.std.proofs.Common.{rules, append_assoc}
use Rattle.report.proofs.explained.hits.write_hit.Goals as goal

pub returns : goal.returns
returns c = search (rules, append_assoc, c.hits_of.ensures, c.name_of-name.ensures, c.point.ensures, c.point-2.ensures, c.task.ensures)
