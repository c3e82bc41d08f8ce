use Rattle.std.proofs.Common.{◌≡◌, ◌≤◌, ◌<◌, ℕ, length}
use Rattle.sim_device.specs.LogEffects.{RestartsKeeping}
use Rattle.commit_target.specs.declared.records.Party.TheVariants.{Participant}
use Rattle.commit_target.specs.Writes.{log_at}
use Rattle.commit_target.specs.Crash.{answers_of}
use Rattle.commit_target.proofs.logs.keep_each.Given as goal

abbrev pub invariant-loop-number : goal.invariant-loop-number
invariant-loop-number l = record {
  same : length l.logs ≡ length l.fn.logs;
  done : (n : ℕ) → n < l.number → RestartsKeeping (log_at l.fn.logs n) (log_at l.logs n) (answers_of (Participant n) l.order l.keep);
  left : (n : ℕ) → l.number ≤ n → log_at l.logs n ≡ log_at l.fn.logs n;
}
