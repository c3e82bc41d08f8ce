use Rattle.std.proofs.Common.{◌≡◌, ◌++◌, replicate}
use Rattle.answer_text.proofs.hits.push_stretch.Given as goal

abbrev pub invariant-loop : goal.invariant-loop
invariant-loop l = l.points.items ≡ l.fn.points.items ++ replicate l.counter l.stretch.point
