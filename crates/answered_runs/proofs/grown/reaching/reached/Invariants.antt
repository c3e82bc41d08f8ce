use Rattle.std.proofs.Common.{length, take}
use Rattle.answered_runs.specs.Answered.{runs_in}
use Rattle.answered_runs.proofs.GrownLemmas.Most.{AreMostOf}
use Rattle.answered_runs.proofs.grown.reaching.reached.Given as goal

abbrev pub invariant-loop-number : goal.invariant-loop-number
invariant-loop-number l = AreMostOf (runs_in l.known.answered) (take l.number l.known.list.plans) (length l.known.answered.points) l.most.items
