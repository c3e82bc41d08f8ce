use Rattle.std.proofs.Common.{List, length, subst}
use Rattle.sim_device.specs.FileEffects.{PowerCut}
use Rattle.sim_device.specs.Disk.{Noted, AddsNoted}
use Rattle.sim_device.specs.Pending.{Pending, kept}
use Rattle.sim_device.specs.inside.Laid.{AreOfFiles, SettlesTo}
use Rattle.sim_device.proofs.PendingLaws.{cuts_keeping}
use Rattle.sim_device.proofs.crash.CrashDevice.cut_keeping.Goals as goal

pub returns-in-Ok-clause-ok : goal.returns-in-Ok-clause-ok
returns-in-Ok-clause-ok c =
    let old : Noted = record { disk = c.self.inside.device; pending = c.self.inside.writes.items } in
    let new : Noted = record { disk = c.cut_and_lay.new.device; pending = c.clear.new.self.items } in
    subst (λ (d : Noted). AddsNoted d new (PowerCut c.args.keep.now)) c.self.view_is
    (cuts_keeping old new c.args.keep.now
    (subst (λ (l : List Pending). AreOfFiles l (length old.disk.files) → SettlesTo old.disk new.disk (kept c.args.keep.now l)) c.as_slice.ensures.value c.in-Ok.ensures)
    c.clear.ensures.items)
