use Rattle.std.proofs.Common.{◌≡◌, drop}
use Rattle.campaign_core.specs.inside.Ranges.{is_left_in}
use Rattle.campaign_core.proofs.watching.is_left.Given as goal

abbrev pub invariant-loop-list : goal.invariant-loop-list
invariant-loop-list g l = is_left_in (drop l.list-index l.lists) l.point ≡ is_left_in l.lists l.point
