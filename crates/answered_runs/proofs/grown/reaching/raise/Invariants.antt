use Rattle.grown_runs.proofs.Overs.{IsRaisedTo}
use Rattle.answered_runs.proofs.grown.reaching.raise.Given as goal

abbrev pub invariant-loop-point : goal.invariant-loop-point
invariant-loop-point l = IsRaisedTo l.point l.fn.most.items l.most.items l.counts
