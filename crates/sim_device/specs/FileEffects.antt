-- What a list of effects on a file device means, the newest effect first: where names lead, what files hold, and which writes are pending.
-- The device is a disk with a cache, as seen by a program that calls pwrite(2), ftruncate(2), fsync(2), rename(2), link(2) and unlink(2) of Linux:
-- what was written to a file or cut off it lasts once the file was synced, and a change of names lasts once the directory was synced. At a power cut
-- each pending write is lost or kept. If it is kept, it is there afterwards and lasts.
-- The list holds what the device accepted since it was made or last cleared. A call that is refused, and a rename of a name to itself, add nothing.
use Rattle.std.specs.Prelude.{ℕ, ◌+◌, ◌==◌, not, if◌then◌else◌, Bool, List, [], ◌∷◌, ◌++◌, take, filter, Option, Some, None, option_map}
use Rattle.sim_device.specs.declared.pending.Call.TheVariants as call
use Rattle.sim_device.specs.Pending.{Pending, is_file, overwritten, is_of_contents, is_to, leads_with, holds_with, further, written, shortened, long, renames, kept}

-- One accepted call. Names are numbers.
pub data Effect : Type 0 where
  Create : ℕ → Effect
  Append : ℕ → List ℕ → Effect
  -- Writes bytes over those at a place.
  Write : ℕ → ℕ → List ℕ → Effect
  -- Cuts the file to at most this many bytes.
  Truncate : ℕ → ℕ → Effect
  Sync : ℕ → Effect
  Rename : ℕ → ℕ → Effect
  Link : ℕ → ℕ → Effect
  Unlink : ℕ → Effect
  SyncDir : Effect
  -- For each pending write in order, whether it is kept. Writes without an answer are lost.
  PowerCut : List Bool → Effect

-- What is there now, and what is there after a power cut.
pub data Side : Type 0 where
  Live : Side
  Lasting : Side

-- How many files were created. A file's number is how many were created before it.
abbrev pub created : List Effect → ℕ
created [] = 0
created (Create m ∷ before) = created before + 1
created (Append m bytes ∷ before) = created before
created (Write m place bytes ∷ before) = created before
created (Truncate m count ∷ before) = created before
created (Sync m ∷ before) = created before
created (Rename a b ∷ before) = created before
created (Link a b ∷ before) = created before
created (Unlink m ∷ before) = created before
created (SyncDir ∷ before) = created before
created (PowerCut keep ∷ before) = created before

abbrev mutual
  -- The file that a name leads to. Live names change with each call that names them. Lasting names are the live names of the last `SyncDir`. A power
  -- cut leaves the lasting names, with the changes that it keeps, and these last.
  pub leads : List Effect → Side → ℕ → Option ℕ
  leads [] side n = None
  leads (Create m ∷ before) Live n = if n == m then Some (created before) else leads before Live n
  leads (Rename a b ∷ before) Live n = if n == b then leads before Live a else if n == a then None else leads before Live n
  leads (Link a b ∷ before) Live n = if n == b then leads before Live a else leads before Live n
  leads (Unlink m ∷ before) Live n = if n == m then None else leads before Live n
  leads (SyncDir ∷ before) Lasting n = leads before Live n
  leads (Append m bytes ∷ before) side n = leads before side n
  leads (Write m place bytes ∷ before) side n = leads before side n
  leads (Truncate m count ∷ before) side n = leads before side n
  leads (Sync m ∷ before) side n = leads before side n
  leads (SyncDir ∷ before) Live n = leads before Live n
  leads (Create m ∷ before) Lasting n = leads before Lasting n
  leads (Rename a b ∷ before) Lasting n = leads before Lasting n
  leads (Link a b ∷ before) Lasting n = leads before Lasting n
  leads (Unlink m ∷ before) Lasting n = leads before Lasting n
  leads (PowerCut keep ∷ before) side n = leads_with (kept keep (pending before)) n (leads before Lasting n)

  -- What a file holds. Live contents are what the last power cut left, with all that was appended, written over and cut off since. Lasting contents
  -- are the live ones of the file's last `Sync`. A power cut leaves the lasting contents, with the writes that it keeps, and these last.
  pub contents : List Effect → Side → ℕ → List ℕ
  contents [] side f = []
  contents (Create m ∷ before) side f = if f == created before then [] else contents before side f
  contents (Append m bytes ∷ before) Live f = if is_file f (leads before Live m) then contents before Live f ++ bytes else contents before Live f
  contents (Append m bytes ∷ before) Lasting f = contents before Lasting f
  contents (Write m place bytes ∷ before) Live f =
      if is_file f (leads before Live m) then overwritten place bytes (contents before Live f) else contents before Live f
  contents (Write m place bytes ∷ before) Lasting f = contents before Lasting f
  contents (Truncate m count ∷ before) Live f = if is_file f (leads before Live m) then take count (contents before Live f) else contents before Live f
  contents (Truncate m count ∷ before) Lasting f = contents before Lasting f
  contents (Sync m ∷ before) Live f = contents before Live f
  contents (Sync m ∷ before) Lasting f = if is_file f (leads before Live m) then contents before Live f else contents before Lasting f
  contents (PowerCut keep ∷ before) side f = holds_with (kept keep (pending before)) f (contents before Lasting f)
  contents (Rename a b ∷ before) side f = contents before side f
  contents (Link a b ∷ before) side f = contents before side f
  contents (Unlink m ∷ before) side f = contents before side f
  contents (SyncDir ∷ before) side f = contents before side f

  -- The pending writes, in the order in which they were made.
  pub pending : List Effect → List Pending
  pending [] = []
  pending (Create m ∷ before) = pending before ++ renames (call.Create m) (Some (created before)) ∷ []
  pending (Append m bytes ∷ before) =
      further (pending before) (written (call.Append m (long (contents before Live) (leads before Live m))) bytes (leads before Live m))
  pending (Write m place bytes ∷ before) = further (pending before) (written (call.WriteAt m place) bytes (leads before Live m))
  pending (Truncate m count ∷ before) = further (pending before) (shortened m count (long (contents before Live) (leads before Live m)) (leads before Live m))
  pending (Sync m ∷ before) = filter (λ p. not (is_to (leads before Live m) p)) (pending before)
  pending (Rename a b ∷ before) = pending before ++ renames (call.Rename a b) (leads before Live a) ∷ []
  pending (Link a b ∷ before) = pending before ++ renames (call.Link a b) (leads before Live a) ∷ []
  pending (Unlink m ∷ before) = pending before ++ renames (call.Unlink m) None ∷ []
  pending (SyncDir ∷ before) = filter (λ p. is_of_contents p.call) (pending before)
  pending (PowerCut keep ∷ before) = []

-- What a name reads, if it leads to a file.
abbrev pub held : List Effect → Side → ℕ → Option (List ℕ)
held effects side n = option_map (contents effects side) (leads effects side n)
