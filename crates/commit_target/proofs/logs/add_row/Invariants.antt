use Rattle.std.proofs.Common.{◌≡◌, ◌+◌, ◌-◌, ◌≤◌, ◌<◌, ℕ, length}
use Rattle.sim_device.specs.LogEffects.{AddsLogEffect}
use Rattle.commit_target.specs.Writes.{log_at}
use Rattle.commit_target.specs.inside.Batches.{effect_of}
use Rattle.commit_target.proofs.logs.add_row.Given as goal

abbrev pub invariant-loop-number : goal.invariant-loop-number
invariant-loop-number l = record {
  within : l.number ≤ l.first + (l.end - l.first);
  same : length l.logs ≡ length l.fn.logs;
  done : (n : ℕ) → l.first ≤ n → n < l.number → AddsLogEffect (log_at l.fn.logs n) (log_at l.logs n) (effect_of l.manner l.entry);
  below : (n : ℕ) → n < l.first → log_at l.logs n ≡ log_at l.fn.logs n;
  left : (n : ℕ) → l.number ≤ n → log_at l.logs n ≡ log_at l.fn.logs n;
}
