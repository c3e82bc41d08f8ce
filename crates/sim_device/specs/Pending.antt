-- Pending writes: what each of them is, and what it changes once it lasts. A disk with a cache writes out unsynced data in any order, and may have
-- written any part of it when the power goes. So each pending write is kept or lost independently.
--
-- A change of names is one write, and is pending until the directory is synced: a rename moves both names or neither. What one call
-- writes to a file or cuts off it is one write, and is pending until that file is synced. A call that changes nothing is never pending: a
-- write of no bytes, or a cut at or past the end of the file.
use Rattle.std.specs.Prelude.{ℕ, ◌+◌, ◌==◌, ◌&&◌, nat_lt, if◌then◌else◌, Bool, true, false, List, [], ◌∷◌, ◌++◌, take, drop, length, replicate, Option, Some, None}
use Rattle.sim_device.specs.declared.pending.Call.{Call}
use Rattle.sim_device.specs.declared.pending.Call.TheVariants as call

-- A pending write: its call; the file that it gives a name to or whose contents it changes; and the bytes that it writes.
pub record Pending : Type 0 where
  pub call : Call
  pub file : Option ℕ
  pub bytes : List ℕ

-- Whether the call changes contents. Otherwise it changes names.
abbrev pub is_of_contents : Call → Bool
is_of_contents (call.Create m) = false
is_of_contents (call.Append m place) = true
is_of_contents (call.WriteAt m place) = true
is_of_contents (call.Truncate m count) = true
is_of_contents (call.Rename a b) = false
is_of_contents (call.Link a b) = false
is_of_contents (call.Unlink m) = false

-- The file that name n leads to once this call lasts, if the call gives its name to `file`. Before, n led to `old`.
abbrev pub led_by : Call → Option ℕ → ℕ → Option ℕ → Option ℕ
led_by (call.Create m) file n old = if n == m then file else old
led_by (call.Append m place) file n old = old
led_by (call.WriteAt m place) file n old = old
led_by (call.Truncate m count) file n old = old
led_by (call.Rename a b) file n old = if n == b then file else if n == a then None else old
led_by (call.Link a b) file n old = if n == b then file else old
led_by (call.Unlink m) file n old = if n == m then None else old

-- Whether it is this file.
abbrev pub is_file : ℕ → Option ℕ → Bool
is_file f None = false
is_file f (Some g) = g == f

-- The contents after bytes are written at a place, as by pwrite(2): what follows them stays, and a gap between the end and the place is filled with
-- zeros. Writing no bytes changes nothing.
abbrev pub overwritten : ℕ → List ℕ → List ℕ → List ℕ
overwritten place [] old = old
overwritten place (byte ∷ bytes) old = take place (old ++ replicate place 0) ++ (byte ∷ bytes) ++ drop (place + length (byte ∷ bytes)) old

-- What the call's file holds once the call, which writes these bytes, lasts. Before, the file held `old`.
abbrev pub held_by : Call → List ℕ → List ℕ → List ℕ
held_by (call.Create m) bytes old = old
held_by (call.Append m place) bytes old = overwritten place bytes old
held_by (call.WriteAt m place) bytes old = overwritten place bytes old
held_by (call.Truncate m count) bytes old = take count old
held_by (call.Rename a b) bytes old = old
held_by (call.Link a b) bytes old = old
held_by (call.Unlink m) bytes old = old

-- The same for any file.
abbrev pub held_with : Pending → ℕ → List ℕ → List ℕ
held_with p f old = if is_file f p.file then held_by p.call p.bytes old else old

-- The file that a name leads to, and the contents of a file, once these writes last. They are applied in the order in which they were made.
abbrev pub leads_with : List Pending → ℕ → Option ℕ → Option ℕ
leads_with [] n old = old
leads_with (p ∷ writes) n old = leads_with writes n (led_by p.call p.file n old)

abbrev pub holds_with : List Pending → ℕ → List ℕ → List ℕ
holds_with [] f old = old
holds_with (p ∷ writes) f old = holds_with writes f (held_with p f old)

-- The writes with one more at the end, if there is one.
abbrev pub further : List Pending → Option Pending → List Pending
further writes None = writes
further writes (Some p) = writes ++ p ∷ []

-- The pending write of bytes to a file. If there is no file, or no byte, there is none.
abbrev pub written : Call → List ℕ → Option ℕ → Option Pending
written c bytes None = None
written c [] (Some f) = None
written c (byte ∷ bytes) (Some f) = Some (record { call = c; file = Some f; bytes = byte ∷ bytes })

-- The pending cut of a file of length `size` to `count` bytes. If it cuts off nothing, there is none.
abbrev pub shortened : ℕ → ℕ → ℕ → Option ℕ → Option Pending
shortened n count size None = None
shortened n count size (Some f) = if nat_lt count size then Some (record { call = call.Truncate n count; file = Some f; bytes = [] }) else None

-- The length of a file, by what each file holds.
abbrev pub long : (ℕ → List ℕ) → Option ℕ → ℕ
long held None = 0
long held (Some f) = length (held f)

-- Whether it is a write to the contents of this file.
abbrev pub is_to : Option ℕ → Pending → Bool
is_to None p = false
is_to (Some f) p = is_of_contents p.call && is_file f p.file

abbrev pub renames : Call → Option ℕ → Pending
renames c file = record { call = c; file = file; bytes = [] }

-- The writes that are kept. Those without an answer are lost.
abbrev pub kept : List Bool → List Pending → List Pending
kept [] writes = []
kept (keeps ∷ rest) [] = []
kept (true ∷ rest) (p ∷ writes) = p ∷ kept rest writes
kept (false ∷ rest) (p ∷ writes) = kept rest writes
