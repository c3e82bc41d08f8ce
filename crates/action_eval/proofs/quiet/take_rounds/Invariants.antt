use Rattle.std.proofs.Common.{take}
use Rattle.action_eval.specs.inside.Quiet.{Spent}
use Rattle.action_eval.proofs.quiet.take_rounds.Given as goal

abbrev pub invariant-loop-place : goal.invariant-loop-place
invariant-loop-place l = Spent l.heads (take l.place l.points) l.times l.fn.left.items l.left.items
