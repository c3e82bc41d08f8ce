use Rattle.grown_runs.proofs.Overs.{IsRaisedTo}
use Rattle.grown_runs.proofs.outcomes.raise.Given as goal

abbrev pub invariant-loop-point : goal.invariant-loop-point
invariant-loop-point l = IsRaisedTo l.point l.fn.hits.items l.hits.items l.counts
