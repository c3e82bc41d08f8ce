-- Conditions on a list of effects, the newest first, that the laws of file effects use.
use Rattle.std.specs.Prelude.{◌≡◌, ℕ, ◌==◌, Bool, false, List, [], ◌∷◌, ◌++◌}
use Rattle.sim_device.specs.FileEffects.{Effect, Create, Append, Write, Truncate, Sync, Rename, Link, Unlink, SyncDir, PowerCut, Live, leads}
use Rattle.sim_device.specs.Pending.{is_file}

-- None of these answers keeps a write.
abbrev pub KeepsNone : List Bool → Type 0
KeepsNone [] = Unit {0}
KeepsNone (keeps ∷ rest) = (keeps ≡ false) × KeepsNone rest

-- None of the later effects wrote to or cut a name that led to this file at that time.
abbrev pub IsUntouched : ℕ → List Effect → List Effect → Type 0
IsUntouched f [] before = Unit {0}
IsUntouched f (Append m bytes ∷ later) before = (is_file f (leads (later ++ before) Live m) ≡ false) × IsUntouched f later before
IsUntouched f (Write m place bytes ∷ later) before = (is_file f (leads (later ++ before) Live m) ≡ false) × IsUntouched f later before
IsUntouched f (Truncate m count ∷ later) before = (is_file f (leads (later ++ before) Live m) ≡ false) × IsUntouched f later before
IsUntouched f (Create m ∷ later) before = IsUntouched f later before
IsUntouched f (Sync m ∷ later) before = IsUntouched f later before
IsUntouched f (Rename a b ∷ later) before = IsUntouched f later before
IsUntouched f (Link a b ∷ later) before = IsUntouched f later before
IsUntouched f (Unlink m ∷ later) before = IsUntouched f later before
IsUntouched f (SyncDir ∷ later) before = IsUntouched f later before
IsUntouched f (PowerCut keep ∷ later) before = IsUntouched f later before

-- None of these is a `SyncDir`, or a power cut that keeps a write.
abbrev pub HasNoSyncDir : List Effect → Type 0
HasNoSyncDir [] = Unit {0}
HasNoSyncDir (SyncDir ∷ later) = ⊥
HasNoSyncDir (Append m bytes ∷ later) = HasNoSyncDir later
HasNoSyncDir (Write m place bytes ∷ later) = HasNoSyncDir later
HasNoSyncDir (Truncate m count ∷ later) = HasNoSyncDir later
HasNoSyncDir (Create m ∷ later) = HasNoSyncDir later
HasNoSyncDir (Sync m ∷ later) = HasNoSyncDir later
HasNoSyncDir (Rename a b ∷ later) = HasNoSyncDir later
HasNoSyncDir (Link a b ∷ later) = HasNoSyncDir later
HasNoSyncDir (Unlink m ∷ later) = HasNoSyncDir later
HasNoSyncDir (PowerCut keep ∷ later) = KeepsNone keep × HasNoSyncDir later

-- None of these gives this name to a file or takes it from one, and none is a power cut.
abbrev pub IsUnnamed : ℕ → List Effect → Type 0
IsUnnamed n [] = Unit {0}
IsUnnamed n (Create m ∷ later) = ((n == m) ≡ false) × IsUnnamed n later
IsUnnamed n (Rename a b ∷ later) = ((n == a) ≡ false) × (((n == b) ≡ false) × IsUnnamed n later)
IsUnnamed n (Link a b ∷ later) = ((n == b) ≡ false) × IsUnnamed n later
IsUnnamed n (Unlink m ∷ later) = ((n == m) ≡ false) × IsUnnamed n later
IsUnnamed n (PowerCut keep ∷ later) = ⊥
IsUnnamed n (Append m bytes ∷ later) = IsUnnamed n later
IsUnnamed n (Write m place bytes ∷ later) = IsUnnamed n later
IsUnnamed n (Truncate m count ∷ later) = IsUnnamed n later
IsUnnamed n (Sync m ∷ later) = IsUnnamed n later
IsUnnamed n (SyncDir ∷ later) = IsUnnamed n later

-- None of the later effects synced a name that led to this file at that time, and no power cut among them kept a write.
abbrev pub IsUnsynced : ℕ → List Effect → List Effect → Type 0
IsUnsynced f [] before = Unit {0}
IsUnsynced f (Sync m ∷ later) before = (is_file f (leads (later ++ before) Live m) ≡ false) × IsUnsynced f later before
IsUnsynced f (Create m ∷ later) before = IsUnsynced f later before
IsUnsynced f (Append m bytes ∷ later) before = IsUnsynced f later before
IsUnsynced f (Write m place bytes ∷ later) before = IsUnsynced f later before
IsUnsynced f (Truncate m count ∷ later) before = IsUnsynced f later before
IsUnsynced f (Rename a b ∷ later) before = IsUnsynced f later before
IsUnsynced f (Link a b ∷ later) before = IsUnsynced f later before
IsUnsynced f (Unlink m ∷ later) before = IsUnsynced f later before
IsUnsynced f (SyncDir ∷ later) before = IsUnsynced f later before
IsUnsynced f (PowerCut keep ∷ later) before = KeepsNone keep × IsUnsynced f later before
