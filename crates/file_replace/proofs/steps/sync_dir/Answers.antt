use Rattle.std.proofs.Common.{rules, refl, ◌∷◌}
use Rattle.sim_device.specs.FileEffects.{SyncDir}
use Rattle.file_replace.specs.declared.variant.Variant.{Variant}
use Rattle.file_replace.specs.Steps.{done, after_sync_dir}
use Rattle.file_replace.proofs.Playing.{shows_as}
use Rattle.file_replace.proofs.steps.sync_dir.Goals as goal

pub returns-in-LateSync : goal.returns-in-LateSync
returns-in-LateSync g c = search rules

pub returns-in-Sound : goal.returns-in-Sound
returns-in-Sound g c = λ es h.
    shows_as (λ (x : Variant). done x c.args.progress.now (SyncDir ∷ es)) (λ (x : Variant). after_sync_dir x c.args.progress.now (SyncDir ∷ es)) c.args.variant _ _ _ c.in-Sound.is refl
    (c.finish.ensures _ (c.sync_dir.ensures es h))

pub returns-in-IgnoreSync : goal.returns-in-IgnoreSync
returns-in-IgnoreSync g c = λ es h.
    shows_as (λ (x : Variant). done x c.args.progress.now (SyncDir ∷ es)) (λ (x : Variant). after_sync_dir x c.args.progress.now (SyncDir ∷ es)) c.args.variant _ _ _ c.in-IgnoreSync.is refl
    (c.finish-in-IgnoreSync.ensures _ (c.sync_dir.ensures es h))

pub returns-in-RetryWrite : goal.returns-in-RetryWrite
returns-in-RetryWrite g c = λ es h.
    shows_as (λ (x : Variant). done x c.args.progress.now (SyncDir ∷ es)) (λ (x : Variant). after_sync_dir x c.args.progress.now (SyncDir ∷ es)) c.args.variant _ _ _ c.in-RetryWrite.is refl
    (c.finish-in-RetryWrite.ensures _ (c.sync_dir.ensures es h))

pub returns-in-RenameFirst : goal.returns-in-RenameFirst
returns-in-RenameFirst g c = λ es h.
    shows_as (λ (x : Variant). done x c.args.progress.now (SyncDir ∷ es)) (λ (x : Variant). after_sync_dir x c.args.progress.now (SyncDir ∷ es)) c.args.variant _ _ _ c.in-RenameFirst.is refl
    (c.finish-in-RenameFirst.ensures _ (c.sync_dir.ensures es h))

pub returns-in-InPlace : goal.returns-in-InPlace
returns-in-InPlace g c = λ es h.
    shows_as (λ (x : Variant). done x c.args.progress.now (SyncDir ∷ es)) (λ (x : Variant). after_sync_dir x c.args.progress.now (SyncDir ∷ es)) c.args.variant _ _ _ c.in-InPlace.is refl
    (c.finish-in-InPlace.ensures _ (c.sync_dir.ensures es h))
