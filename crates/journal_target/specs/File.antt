-- The journal's file, on a disk with a cache: what a sync puts on the disk, and what a power cut leaves of the rest.
use Rattle.std.specs.Prelude.{ℕ, Bool, true, false, List, [], ◌∷◌, ◌++◌, take, drop, length, replicate}

pub record File : Type 0 where
  pub bytes : List ℕ
  -- How many of the bytes are on the disk.
  pub synced : ℕ
  -- The sizes of the appends after these bytes, the oldest first. Each is a pending write.
  pub pending : List ℕ

abbrev pub appended_to : File → List ℕ → File
appended_to f bytes = record { bytes = f.bytes ++ bytes; synced = f.synced; pending = f.pending ++ length bytes ∷ [] }

abbrev pub synced_file : File → File
synced_file f = record { bytes = f.bytes; synced = length f.bytes; pending = [] }

-- Bytes after a gap of lost ones. Lost bytes read as zeros if bytes follow them; otherwise the file ends before them.
abbrev pub gap : ℕ → List ℕ → List ℕ
gap size [] = []
gap size (byte ∷ bytes) = replicate size 0 ++ byte ∷ bytes

-- What is left of pending appends with these sizes and bytes, given which of them are kept. Those without an answer are lost.
abbrev pub laid : List ℕ → List ℕ → List Bool → List ℕ
laid bytes [] keep = []
laid bytes (size ∷ more) [] = []
laid bytes (size ∷ more) (true ∷ rest) = take size bytes ++ laid (drop size bytes) more rest
laid bytes (size ∷ more) (false ∷ rest) = gap size (laid (drop size bytes) more rest)

-- What a power cut leaves of the file.
abbrev pub left : File → List Bool → List ℕ
left f keep = take f.synced f.bytes ++ laid (drop f.synced f.bytes) f.pending keep
