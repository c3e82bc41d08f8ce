use Rattle.std.proofs.Common.{◌≡◌, ◌≤◌, ◌++◌, ◌+◌, ◌-◌, vec_len, vec_capacity}
use Rattle.action_eval.specs.inside.Laid.{joined, sizes_of}
use Rattle.action_eval.proofs.fault_table.lay.Given as goal

abbrev pub invariant-loop-point : goal.invariant-loop-point
invariant-loop-point l = record {
  terms : l.terms.items ++ joined l.point (l.count - l.point) l.rigs ≡ joined 0 l.count l.rigs;
  sizes_room : vec_len l.sizes + (l.count - l.point) ≤ vec_capacity l.sizes;
  sizes : l.sizes.items ++ sizes_of l.point (l.count - l.point) l.rigs ≡ sizes_of 0 l.count l.rigs;
}
