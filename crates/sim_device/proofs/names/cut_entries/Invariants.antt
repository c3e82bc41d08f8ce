use Rattle.std.proofs.Common.{◌≡◌, ◌<◌, ◌≤◌, ℕ}
use Rattle.sim_device.specs.Disk.{entry_at}
use Rattle.sim_device.proofs.names.cut_entries.Given as goal

abbrev pub invariant-loop-place : goal.invariant-loop-place
invariant-loop-place l = record {
  done : (n : ℕ) → n < l.place → entry_at l.entries n ≡ record { live = (entry_at l.fn.entries n).lasting; lasting = (entry_at l.fn.entries n).lasting };
  left : (n : ℕ) → l.place ≤ n → entry_at l.entries n ≡ entry_at l.fn.entries n;
}
