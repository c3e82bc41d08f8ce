use Rattle.std.proofs.Common.{◌≡◌, ◌++◌, filter, drop}
use Rattle.campaign_core.specs.inside.Ranges.{is_left_in}
use Rattle.campaign_core.proofs.watching.left_of.Given as goal

abbrev pub invariant-loop-point : goal.invariant-loop-point
invariant-loop-point g l = l.left.items ++ filter (is_left_in l.lists) (drop l.point-index l.watched) ≡ filter (is_left_in l.lists) l.watched
