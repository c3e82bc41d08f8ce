use Rattle.std.proofs.Common.{◌-◌}
use Rattle.answered_runs.proofs.Laid.{Between}
use Rattle.answered_runs.proofs.segments.number_at.Given as goal

abbrev pub invariant-loop-high : goal.invariant-loop-high
invariant-loop-high l = Between l.segments l.place l.low l.high

abbrev pub decreases-loop-high : goal.decreases-loop-high
decreases-loop-high l = l.high - l.low
