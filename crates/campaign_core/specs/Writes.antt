-- What writing a text changes in a sink.
use Rattle.std.specs.Prelude.{◌≡◌, ◌<◌, ℕ, Bool, true, false, List, Option, length, take}
use Rattle.std.specs.Io.KnownBytes.{Appends}
use Rattle.target_trait.specs.declared.output.Sink.{Ghosts}

-- What a sink held before and what it holds after, if it reveals its bytes, and whether it has failed.
pub record Change : Type 0 where
  pub old : Option (List ℕ)
  pub new : Option (List ℕ)
  pub failed : Bool

abbrev pub change : {S : Type 0} → Ghosts S → S → S → Change
change sink old new = record { old = sink.told old; new = sink.told new; failed = sink.has_failed new }

-- Nothing was written, and the sink hasn't failed.
abbrev pub IsUntouched : Change → Type 0
IsUntouched w = (w.new ≡ w.old) × (w.failed ≡ false)

-- The whole text was written, and the sink hasn't failed.
abbrev pub WritesWhole : List ℕ → Change → Type 0
WritesWhole text w = Appends w.old w.new text × (w.failed ≡ false)

-- The first n bytes of the text were written, fewer than all, and then the sink failed.
abbrev pub WritesPart : List ℕ → ℕ → Change → Type 0
WritesPart text n w = Appends w.old w.new (take n text) × (n < length text) × (w.failed ≡ true)
