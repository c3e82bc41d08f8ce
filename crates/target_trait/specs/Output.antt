-- The result of a write to a writer, and what a sink over the writer shows.
use Rattle.std.specs.Prelude.{ℕ, zero, suc, Bool, true, false, List, [], ◌∷◌, Option, Result, Ok, Err}

-- A write fails if it returns an error, or if it takes no byte of a slice that has bytes.
abbrev pub fails : {E : Type 0} → Result ℕ E → List ℕ → Bool
fails (Err _) _ = true
fails (Ok zero) (_ ∷ _) = true
fails (Ok zero) [] = false
fails (Ok (suc _)) _ = false

-- The bytes that the writer holds, if it reveals them, and whether a write failed.
pub record Taken : Type 0 where
  pub bytes : Option (List ℕ)
  pub has_failed : Bool
