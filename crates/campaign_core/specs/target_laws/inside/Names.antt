-- What a lawful catalogue has at each of its places.
use Rattle.std.specs.Prelude.{◌≡◌, ℕ, ◌<◌, ◌≤◌, List, [], true, false, length, slice_index_or}
use Rattle.std.specs.Str.{bytes_eq}
use Rattle.scenario_values.specs.Scenario.{is_name}

-- The name at this place differs from each before it.
abbrev pub IsNewAt : List (List ℕ) → ℕ → Type 0
IsNewAt names p = (q : ℕ) → q < p → bytes_eq (slice_index_or names q []) (slice_index_or names p []) ≡ false

-- The name at this place is short enough, is one that a scenario can have, and is new.
pub record IsLawfulAt (names : List (List ℕ)) (p : ℕ) : Type 0 where
  pub short : length (slice_index_or names p []) ≤ 200
  pub lawful : is_name (slice_index_or names p []) ≡ true
  pub new : IsNewAt names p
