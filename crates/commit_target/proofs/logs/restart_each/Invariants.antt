use Rattle.std.proofs.Common.{◌≡◌, ◌≤◌, ◌<◌, ℕ, length}
use Rattle.sim_device.specs.LogEffects.{Restart, AddsLogEffect}
use Rattle.commit_target.specs.Writes.{log_at}
use Rattle.commit_target.proofs.logs.restart_each.Given as goal

abbrev pub invariant-loop-number : goal.invariant-loop-number
invariant-loop-number l = record {
  same : length l.logs ≡ length l.fn.logs;
  done : (n : ℕ) → n < l.number → AddsLogEffect (log_at l.fn.logs n) (log_at l.logs n) Restart;
  left : (n : ℕ) → l.number ≤ n → log_at l.logs n ≡ log_at l.fn.logs n;
}
