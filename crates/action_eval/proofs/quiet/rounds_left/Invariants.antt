use Rattle.std.proofs.Common.{◌≤◌, ◌<◌, ℕ, get_or}
use Rattle.action_eval.specs.inside.Quiet.{head_at, quiet_of}
use Rattle.action_eval.proofs.quiet.rounds_left.Given as goal

abbrev pub invariant-loop-point : goal.invariant-loop-point
invariant-loop-point l = (k : ℕ) (d : ℕ) → k < l.point-index → l.least ≤ quiet_of l.left (head_at l.heads (get_or l.points k d))
