-- What a step needs to find on the device.
use Rattle.std.specs.Prelude.{◌≡◌, ℕ, false, List, Option, is_some, is_none}
use Rattle.sim_device.specs.FileEffects.{Effect, Live, leads}
use Rattle.sim_device.specs.Disk.{entry_at}
use Rattle.sim_device.specs.declared.names.Entry.{Entry}
use Rattle.file_replace.specs.Words.{target, tmp, written_name}
use Rattle.file_replace.specs.declared.variant.Variant.{Variant}
use Rattle.file_replace.specs.Steps.{Step, Clearing, Creating, Writing, WritingAgain, Syncing, Renaming, SyncingRenamed, SyncingDir, SyncingLate, Cleaning, Over}

-- The names that the step needs exist, given the files to which `target`, `tmp` and the written name lead. To create a file, its name must be free.
abbrev pub IsReady : Step → Option ℕ → Option ℕ → Option ℕ → Type 0
IsReady (Clearing chunks) old new mine = is_none mine ≡ false
IsReady (Creating chunks) old new mine = is_some mine ≡ false
IsReady (Writing c cs) old new mine = is_none mine ≡ false
IsReady (WritingAgain c cs) old new mine = is_none mine ≡ false
IsReady Syncing old new mine = is_none mine ≡ false
IsReady Renaming old new mine = is_none new ≡ false
IsReady SyncingRenamed old new mine = is_none old ≡ false
IsReady SyncingDir old new mine = is_none old ≡ false
IsReady SyncingLate old new mine = is_none old ≡ false
IsReady Cleaning old new mine = is_none new ≡ false
IsReady Over old new mine = Unit {0}

abbrev pub IsReadyAfter : Variant → Step → List Effect → Type 0
IsReadyAfter v step es = IsReady step (leads es Live target) (leads es Live tmp) (leads es Live (written_name v))

abbrev pub IsReadyOn : Variant → Step → List Entry → Type 0
IsReadyOn v step names = IsReady step (entry_at names target).live (entry_at names tmp).live (entry_at names (written_name v)).live
