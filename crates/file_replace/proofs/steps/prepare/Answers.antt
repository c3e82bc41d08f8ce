use Rattle.std.proofs.Common.{List, [], ◌∷◌, ℕ, subst, ◌∙◌, ap}
use Rattle.std.specs.Prelude.{is_none, is_some}
use Rattle.sim_device.specs.FileEffects.{Append, Create, Sync, SyncDir}
use Rattle.file_replace.proofs.steps.prepare.Goals as goal

pub returns : goal.returns
returns g c =
    let P : List ℕ → Type 0 = λ b. g.D.Device.stands c.sync_dir.new.self (SyncDir ∷ Sync 0 ∷ Append 0 b ∷ Create 0 ∷ []) in
    subst P (c.as_bytes.ensures.value ∙ c.as_str.ensures) (c.sync_dir.ensures _ (c.sync.ensures _ (c.in_ok-append.ensures _ (c.in_ok-create.ensures _ c.clear.ensures))))

pub append-requires : goal.append-requires
append-requires g c = ap is_none (g.met.D.Device.led _ _ 0 (c.in_ok-create.ensures _ c.clear.ensures))

pub sync-requires : goal.sync-requires
sync-requires g c = ap is_none (g.met.D.Device.led _ _ 0 (c.in_ok-append.ensures _ (c.in_ok-create.ensures _ c.clear.ensures)))

pub create-requires : goal.create-requires
create-requires g c = ap is_some (g.met.D.Device.led _ _ 0 c.clear.ensures)
