-- A text in chunks.
use Rattle.std.specs.Prelude.{ℕ, ◌/◌, ◌≤◌, List, length, take}
use Rattle.std.specs.List.{AllByRecursion, concat}

-- The whole text: the chunks, one after another.
abbrev pub joined : List (List ℕ) → List ℕ
joined = concat

-- The first half of a chunk, in whole bytes.
abbrev pub half : List ℕ → List ℕ
half c = take (length c / 2) c

-- At most 1,000 chunks of at most 4,096 bytes.
pub record IsChunks (chunks : List (List ℕ)) : Type 0 where
  pub few : length chunks ≤ 1000
  pub short : AllByRecursion (λ chunk. length chunk ≤ 4096) chunks
