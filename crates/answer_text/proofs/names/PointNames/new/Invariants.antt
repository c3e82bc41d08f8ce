use Rattle.answer_text.proofs.Places.{Places}
use Rattle.answer_text.proofs.names.PointNames.new.Given as goal

abbrev pub invariant-loop-number : goal.invariant-loop-number
invariant-loop-number l = Places l.names l.places.entries l.number

abbrev pub decreases-loop-number : goal.decreases-loop-number
decreases-loop-number l = l.number
