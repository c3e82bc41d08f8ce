use Rattle.std.proofs.Common.{◌≡◌, ◌+◌, ◌≤◌, length, take, not}
use Rattle.std.specs.List.{suffix_len}
use Rattle.sim_device.proofs.log.kept_front.Given as goal

abbrev pub invariant-loop-front : goal.invariant-loop-front
invariant-loop-front l = (l.front ≤ length l.keep) × (l.front + suffix_len not l.keep ≡ length l.keep + suffix_len not (take l.front l.keep))

abbrev pub decreases-loop-front : goal.decreases-loop-front
decreases-loop-front l = l.front
