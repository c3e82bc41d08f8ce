use Rattle.std.proofs.Common.{◌≡◌, ◌≤◌, ◌+◌, ◌-◌, ◌++◌, drop, length, vec_len, vec_capacity}
use Rattle.action_eval.specs.inside.Session.{left_row}
use Rattle.action_eval.proofs.counts.push_counts.Given as goal

abbrev pub invariant-loop-term : goal.invariant-loop-term
invariant-loop-term l = record {
  counts : l.left.items ++ left_row (λ _. 0) l.term-index (drop l.term-index l.terms) ≡ l.fn.left.items ++ left_row (λ _. 0) 0 l.terms;
  len : vec_len l.left ≡ vec_len l.fn.left + l.term-index;
  room : vec_len l.left + (length l.terms - l.term-index) ≤ vec_capacity l.left;
  kept : vec_capacity l.left ≡ vec_capacity l.fn.left;
}
