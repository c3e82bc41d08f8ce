-- The random words of a run.
use Rattle.std.specs.Prelude.{ℕ, List, ◌++◌, replicate}
use Rattle.std.specs.Int.{w64, to_le_bytes}
use Rattle.rand_chacha.specs.ChaCha.{word_at, key_of, ChaCha}

-- The seed of the generator: the number of the seed as eight bytes, low byte first, and then zeros.
abbrev pub seed_bytes : ℕ → List ℕ
seed_bytes seed = to_le_bytes w64 seed ++ replicate 24 0

-- Word i of a run, by its seed and its stream number: word i of that stream of ChaCha8, which has 4 double rounds.
unfoldable pub word : ℕ → ℕ → ℕ → ℕ
word seed stream i = word_at 4 (key_of (seed_bytes seed)) stream i

-- The random words of a run, and how many of them were taken.
pub record Drawn : Type 0 where
  pub seed : ℕ
  pub stream : ℕ
  pub taken : ℕ

-- The generator whose next word is word i.
unfoldable pub at_word : ℕ → ℕ → ℕ → ChaCha
at_word seed stream i = record { key = key_of (seed_bytes seed); stream = stream; word_pos = i }
