use Rattle.std.proofs.Common.{◌≡◌, length}
use Rattle.answered_runs.specs.Rigged.{are_in_order}
use Rattle.answered_runs.proofs.rigged.are_in_order.Given as goal

abbrev pub invariant-loop-first : goal.invariant-loop-first
invariant-loop-first l = are_in_order l.rest ≡ are_in_order l.rigs

abbrev pub decreases-loop-first : goal.decreases-loop-first
decreases-loop-first l = length l.rest
