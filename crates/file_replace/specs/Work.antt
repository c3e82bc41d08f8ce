-- The workload of a run.
use Rattle.std.specs.Prelude.{ℕ, ◌≤◌, List, length}

-- The old contents, and for each replacement its chunks.
pub record Work : Type 0 where
  pub old : List ℕ
  pub replacements : List (List (List ℕ))

-- There are at most 65,536 bytes of old contents, and at most 1,000 replacements.
pub record IsWork (work : Work) : Type 0 where
  pub short_old : length work.old ≤ 65536
  pub few : length work.replacements ≤ 1000
