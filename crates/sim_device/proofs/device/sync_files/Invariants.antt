use Rattle.std.proofs.Common.{◌≡◌, ◌<◌, ◌≤◌, ℕ}
use Rattle.sim_device.specs.Disk.{held_at}
use Rattle.sim_device.proofs.device.sync_files.Given as goal

abbrev pub invariant-loop-number : goal.invariant-loop-number
invariant-loop-number l = record {
  done : (f : ℕ) → f < l.number → held_at l.files f ≡ record { live = (held_at l.fn.files f).live; lasting = (held_at l.fn.files f).live };
  left : (f : ℕ) → l.number ≤ f → held_at l.files f ≡ held_at l.fn.files f;
}
