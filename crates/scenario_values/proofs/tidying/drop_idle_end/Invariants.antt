use Rattle.std.proofs.Common.{◌≡◌, ◌+◌, ◌≤◌, length, take}
use Rattle.std.specs.List.{suffix_len}
use Rattle.scenario_values.specs.Tidied.{is_idle}
use Rattle.scenario_values.proofs.tidying.drop_idle_end.Given as goal

abbrev pub invariant-loop-n : goal.invariant-loop-n
invariant-loop-n l = (l.n ≤ length l.terms.items) × (l.n + suffix_len is_idle l.terms.items ≡ length l.terms.items + suffix_len is_idle (take l.n l.terms.items))

abbrev pub decreases-loop-n : goal.decreases-loop-n
decreases-loop-n l = l.n
