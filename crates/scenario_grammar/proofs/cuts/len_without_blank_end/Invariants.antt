use Rattle.std.proofs.Common.{◌≡◌, ◌+◌, ◌<◌, ◌≤◌, length, take, get_or, true}
use Rattle.std.specs.List.{suffix_len}
use Rattle.scenario_values.specs.Words.{is_blank}
use Rattle.scenario_grammar.proofs.cuts.len_without_blank_end.Given as goal

abbrev pub invariant-loop-n : goal.invariant-loop-n
invariant-loop-n l = (l.n ≤ length l.bytes) × (l.n + suffix_len is_blank l.bytes ≡ length l.bytes + suffix_len is_blank (take l.n l.bytes)) × (l.n < length l.bytes → is_blank (get_or l.bytes l.n 0) ≡ true)

abbrev pub decreases-loop-n : goal.decreases-loop-n
decreases-loop-n l = l.n
