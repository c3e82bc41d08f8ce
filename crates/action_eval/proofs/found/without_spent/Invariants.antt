use Rattle.std.proofs.Common.{take}
use Rattle.action_eval.specs.Trial.{is_spent}
use Rattle.action_eval.specs.inside.Session.{AllSpent}
use Rattle.action_eval.proofs.found.without_spent.Given as goal

-- the terms that were passed are spent
abbrev pub invariant-loop-place : goal.invariant-loop-place
invariant-loop-place l = AllSpent (is_spent l.left) l.found.start (take l.place l.found.chain.now)
