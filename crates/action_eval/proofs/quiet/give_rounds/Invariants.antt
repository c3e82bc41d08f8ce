use Rattle.std.proofs.Common.{◌≡◌, ◌<◌, ℕ, List, length, slice_index, drop}
use Rattle.action_eval.specs.inside.Quiet.{Spent}
use Rattle.action_eval.proofs.quiet.give_rounds.Given as goal

abbrev pub invariant-loop-point : goal.invariant-loop-point
invariant-loop-point l = record {
  size : length l.left.items ≡ length l.fn.left.items;
  gives : (whole : List ℕ) → Spent l.heads l.points l.times whole l.fn.left.items → ((j : ℕ) → slice_index whole j < 4294967296) → Spent l.heads (drop l.point-index l.points) l.times whole l.left.items;
}
