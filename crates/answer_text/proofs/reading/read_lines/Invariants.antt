use Rattle.std.proofs.Common.{length}
use Rattle.answer_text.proofs.RunReading.{Reading}
use Rattle.answer_text.proofs.reading.read_lines.Given as goal

abbrev pub invariant-loop-line : goal.invariant-loop-line
invariant-loop-line l = Reading l.needed l.codes l.points l.fn.text l.rest l.runs l.number

abbrev pub decreases-loop-line : goal.decreases-loop-line
decreases-loop-line l = length l.rest
