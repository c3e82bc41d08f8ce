-- How chunks are kept: the bytes of all of them, and the places among these bytes where each chunk begins and where the last one ends.
use Rattle.std.specs.Prelude.{◌≡◌, ℕ, ◌+◌, ◌-◌, List, [], ◌∷◌, length, take, drop}
use Rattle.scenario_values.specs.chunked.Chunks.{IsChunks, joined}

-- The places of chunks, the first of which begins at n.
abbrev pub places_of : ℕ → List (List ℕ) → List ℕ
places_of n [] = n ∷ []
places_of n (c ∷ cs) = n ∷ places_of (n + length c) cs

-- The bytes from one place to the next.
abbrev pub pieces : List ℕ → List ℕ → List (List ℕ)
pieces bytes [] = []
pieces bytes (from ∷ []) = []
pieces bytes (from ∷ to ∷ more) = take (to - from) (drop from bytes) ∷ pieces bytes (to ∷ more)

-- These bytes and places keep these chunks.
pub record IsFlat (bytes places : List ℕ) (chunks : List (List ℕ)) : Type 0 where
  pub lawful : IsChunks chunks
  pub bytes_are : bytes ≡ joined chunks
  pub places_are : places ≡ places_of 0 chunks
