use Rattle.std.proofs.Common.{◌≡◌, drop}
use Rattle.grown_runs.specs.known.Walks.{first_acting}
use Rattle.grown_runs.specs.known.inside.WalkSteps.{grew_at}
use Rattle.grown_runs.proofs.known.walking.first_acting.Given as goal

abbrev pub invariant-loop-child : goal.invariant-loop-child
invariant-loop-child l = first_acting l.rigs (grew_at (drop l.child-index l.children)) ≡ first_acting l.rigs (grew_at l.children)
