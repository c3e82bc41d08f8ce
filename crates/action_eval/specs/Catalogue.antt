-- The catalogue of a target: the names of its points, in the order of their numbers.
use Rattle.std.specs.Prelude.{◌≡◌, ℕ, ◌<◌, ◌≤◌, List, [], ◌∷◌, false, true, length}
use Rattle.std.specs.List.{AllByRecursion}
use Rattle.std.specs.Str.{bytes_eq}
use Rattle.scenario_values.specs.Scenario.{is_name}

-- No name occurs twice.
abbrev pub HasDistinct : List (List ℕ) → Type 0
HasDistinct [] = Unit {0}
HasDistinct (name ∷ names) = AllByRecursion (λ other. bytes_eq other name ≡ false) names × HasDistinct names

-- There are 1 to 64 distinct names of at most 200 bytes, each of which may stand in a scenario. So a plan of faults
-- at any of the points is a scenario, and its text is short.
pub record IsCatalogue (names : List (List ℕ)) : Type 0 where
  pub some : 0 < length names
  pub few : length names ≤ 64
  pub short : AllByRecursion (λ name. length name ≤ 200) names
  pub lawful : AllByRecursion (λ name. is_name name ≡ true) names
  pub distinct : HasDistinct names
