use Rattle.std.proofs.Common.{◌≡◌, length, drop}
use Rattle.sim_device.specs.Disk.{Disk}
use Rattle.sim_device.specs.Pending.{kept}
use Rattle.sim_device.specs.inside.Laid.{AreOfFiles, Lays}
use Rattle.sim_device.proofs.laying.lay_kept.Given as goal

abbrev pub invariant-loop-place : goal.invariant-loop-place
invariant-loop-place l = AreOfFiles l.writes (length l.fn.device.files) → record {
  rest : (d : Disk) → Lays l.device d (kept (drop l.place l.keep) (drop l.place l.writes)) → Lays l.fn.device d (kept l.keep l.writes);
  made : length l.device.files ≡ length l.fn.device.files;
}
