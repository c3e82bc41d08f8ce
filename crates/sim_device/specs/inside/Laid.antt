-- How pending writes are applied to a disk, one after another.
use Rattle.std.specs.Prelude.{◌≡◌, ℕ, ◌<◌, List, [], ◌∷◌, length, IfSome}
use Rattle.sim_device.specs.Disk.{Disk, entry_at, held_at}
use Rattle.sim_device.specs.Pending.{Pending, leads_with, holds_with}

-- These writes are applied to what is live, and what lasts is unchanged.
pub record Lays (old new : Disk) (writes : List Pending) : Type 0 where
  pub names : (n : ℕ) → entry_at new.names n ≡ record { live = leads_with writes n (entry_at old.names n).live; lasting = (entry_at old.names n).lasting }
  pub made : length new.files ≡ length old.files
  pub files : (f : ℕ) → f < length old.files
      → held_at new.files f ≡ record { live = holds_with writes f (held_at old.files f).live; lasting = (held_at old.files f).lasting }

-- What is live becomes what lasted with these writes applied, and it lasts.
pub record SettlesTo (old new : Disk) (writes : List Pending) : Type 0 where
  pub live : (n : ℕ) → (entry_at new.names n).live ≡ leads_with writes n (entry_at old.names n).lasting
  pub lasting : (n : ℕ) → (entry_at new.names n).lasting ≡ leads_with writes n (entry_at old.names n).lasting
  pub made : length new.files ≡ length old.files
  pub now : (f : ℕ) → f < length old.files → (held_at new.files f).live ≡ holds_with writes f (held_at old.files f).lasting
  pub disk : (f : ℕ) → f < length old.files → (held_at new.files f).lasting ≡ holds_with writes f (held_at old.files f).lasting

-- Each write is to a file in use, or to none.
abbrev pub AreOfFiles : List Pending → ℕ → Type 0
AreOfFiles [] used = Unit {0}
AreOfFiles (p ∷ writes) used = IfSome p.file (λ f. f < used) × AreOfFiles writes used
