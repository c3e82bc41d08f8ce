use Rattle.std.proofs.Common.{rules}
use Rattle.report.proofs.WritingLemmas.{appends-more, fails-some}
use Rattle.report.proofs.writing.write_report.Goals as goal

pub loop-written-preserved : goal.loop-written-preserved
loop-written-preserved g c = (search rules, search (rules, fails-some), search (rules, appends-more))
