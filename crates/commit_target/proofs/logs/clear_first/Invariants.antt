use Rattle.std.proofs.Common.{◌≤◌, ◌<◌, ℕ, [], length}
use Rattle.sim_device.specs.LogEffects.{LogStandsFor}
use Rattle.commit_target.specs.Writes.{log_at}
use Rattle.commit_target.proofs.logs.clear_first.Given as goal

abbrev pub invariant-loop-number : goal.invariant-loop-number
invariant-loop-number l = record {
  enough : l._number ≤ length l.logs.items;
  empty : (n : ℕ) → n < length l.logs.items → LogStandsFor (log_at l.logs.items n) [];
}
