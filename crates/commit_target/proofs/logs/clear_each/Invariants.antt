use Rattle.std.proofs.Common.{◌≡◌, ◌<◌, ℕ, [], length}
use Rattle.sim_device.specs.LogEffects.{LogStandsFor}
use Rattle.commit_target.specs.Writes.{log_at}
use Rattle.commit_target.proofs.logs.clear_each.Given as goal

abbrev pub invariant-loop-number : goal.invariant-loop-number
invariant-loop-number l = record {
  same : length l.logs ≡ length l.fn.logs;
  done : (n : ℕ) → n < l.number → LogStandsFor (log_at l.logs n) [];
}
