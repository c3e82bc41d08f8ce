-- A file device as contracts see it: for each name and each file, what is live and what lasts.
use Rattle.std.specs.Prelude.{◌≡◌, ℕ, ◌<◌, ◌≤◌, ◌^◌, ◌==◌, is_some, if◌then◌else◌, true, false, List, [], ◌∷◌, Option, Some, None, length, slice_index_or, option_map}
use Rattle.sim_device.specs.declared.names.Entry.{Entry}
use Rattle.sim_device.specs.FileEffects.{Effect, Rename, Live, Lasting, leads, contents, created, pending}
use Rattle.sim_device.specs.Pending.{Pending}

-- What a file holds.
pub record Held : Type 0 where
  pub live : List ℕ
  pub lasting : List ℕ

-- The table of names, and the files by their numbers.
pub record Disk : Type 0 where
  pub names : List Entry
  pub files : List Held

-- The entry of a name, which says where the name leads. A name past the end of the table leads nowhere.
abbrev pub entry_at : List Entry → ℕ → Entry
entry_at names n = slice_index_or names n (record { live = None; lasting = None })

abbrev pub held_at : List Held → ℕ → Held
held_at files f = slice_index_or files f (record { live = []; lasting = [] })

-- What reading a name gives now, if it leads to a file.
abbrev pub reads : Disk → ℕ → Option (List ℕ)
reads d n = option_map (λ f. (held_at d.files f).live) (entry_at d.names n).live

-- The device is what this list of effects gives.
pub record StandsFor (d : Disk) (effects : List Effect) : Type 0 where
  pub live : (n : ℕ) → (entry_at d.names n).live ≡ leads effects Live n
  pub lasting : (n : ℕ) → (entry_at d.names n).lasting ≡ leads effects Lasting n
  pub made : length d.files ≡ created effects
  pub now : (f : ℕ) → f < length d.files → (held_at d.files f).live ≡ contents effects Live f
  pub disk : (f : ℕ) → f < length d.files → (held_at d.files f).lasting ≡ contents effects Lasting f

-- The effect was accepted: whatever list of effects the device stood for, it now stands for that list with this effect added.
abbrev pub AddsEffect : Disk → Disk → Effect → Type 0
AddsEffect old new effect = (es : List Effect) → StandsFor old es → StandsFor new (effect ∷ es)

-- The same for a rename, which has no effect if the two names are equal.
abbrev pub AddsRename : Disk → Disk → ℕ → ℕ → Type 0
AddsRename old new from to = (es : List Effect) → StandsFor old es → StandsFor new (if from == to then es else Rename from to ∷ es)

-- A device that also lists what is pending.
pub record Noted : Type 0 where
  pub disk : Disk
  pub pending : List Pending

-- The device is what this list of effects gives, and lists what is pending after them.
pub record Tells (d : Noted) (effects : List Effect) : Type 0 where
  pub disk : StandsFor d.disk effects
  pub pending : d.pending ≡ pending effects

-- The effect was accepted.
abbrev pub AddsNoted : Noted → Noted → Effect → Type 0
AddsNoted old new effect = (es : List Effect) → Tells old es → Tells new (effect ∷ es)

abbrev pub AddsNotedRename : Noted → Noted → ℕ → ℕ → Type 0
AddsNotedRename old new from to = (es : List Effect) → Tells old es → Tells new (if from == to then es else Rename from to ∷ es)

-- No name from `first` to before `end` exists now.
abbrev pub IsNoneThere : List Entry → ℕ → ℕ → Type 0
IsNoneThere names first end = (n : ℕ) → first ≤ n → n < end → is_some (entry_at names n).live ≡ false

-- The smallest name from this one on that exists now. Names are numbers of 32 bits.
abbrev pub IsNext : List Entry → ℕ → Option ℕ → Type 0
IsNext names from (Some n) = (from ≤ n) × ((is_some (entry_at names n).live ≡ true) × IsNoneThere names from n)
IsNext names from None = IsNoneThere names from (2 ^ 32)

-- The name leads to this file now (or to none), and all else is unchanged.
abbrev pub ChangesName : List Entry → List Entry → ℕ → Option ℕ → Type 0
ChangesName old new name file = (n : ℕ) → entry_at new n ≡ (if n == name then record { live = file; lasting = (entry_at old n).lasting } else entry_at old n)

-- One name leads to this file now, another to none, and all else is unchanged.
abbrev pub MovesName : List Entry → List Entry → ℕ → ℕ → ℕ → Type 0
MovesName old new file from to = (n : ℕ) → entry_at new n
    ≡ (if n == to then record { live = Some file; lasting = (entry_at old n).lasting } else
    (if n == from then record { live = None; lasting = (entry_at old n).lasting } else entry_at old n))

-- This file holds these bytes now, and all else is unchanged.
abbrev pub ChangesFile : List Held → List Held → ℕ → List ℕ → Type 0
ChangesFile old new f bytes = (length new ≡ length old) × ((g : ℕ) → g < length old
    → held_at new g ≡ (if g == f then record { live = bytes; lasting = (held_at old g).lasting } else held_at old g))

-- Each name leads to a file in use, or to none.
pub record Keeps (names : List Entry) (used all : ℕ) : Type 0 where
  pub few : used ≤ all
  pub live : (n f : ℕ) → (entry_at names n).live ≡ Some f → f < used
  pub lasting : (n f : ℕ) → (entry_at names n).lasting ≡ Some f → f < used

-- The names outside these bounds lead to the same after a power cut as now.
pub record IsSettledOutside (names : List Entry) (first end : ℕ) : Type 0 where
  pub within : end ≤ length names
  pub below : (n : ℕ) → n < first → (entry_at names n).live ≡ (entry_at names n).lasting
  pub above : (n : ℕ) → end ≤ n → (entry_at names n).live ≡ (entry_at names n).lasting
