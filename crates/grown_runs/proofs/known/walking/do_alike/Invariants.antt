use Rattle.std.proofs.Common.{◌≡◌, drop}
use Rattle.grown_runs.specs.known.Walks.{do_alike}
use Rattle.grown_runs.specs.known.inside.WalkSteps.{grew_at}
use Rattle.grown_runs.proofs.known.walking.do_alike.Given as goal

abbrev pub invariant-loop-child : goal.invariant-loop-child
invariant-loop-child l = do_alike l.rigs l.others (grew_at (drop l.child-index l.children)) ≡ do_alike l.rigs l.others (grew_at l.children)
