use Rattle.std.proofs.Common.{◌≡◌, ◌==◌, filter, get_or}
use Rattle.std.specs.List.{range_with_len}
use Rattle.campaign_core.proofs.watching.uncounted.Given as goal

abbrev pub invariant-loop-point : goal.invariant-loop-point
invariant-loop-point l = l.points.items ≡ filter (λ p. get_or l.counts p 0 == 0) (range_with_len 0 l.point)
