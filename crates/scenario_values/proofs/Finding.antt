-- Looking for a name, entry after entry.
use Rattle.std.proofs.Common.{◌≡◌, ℕ, ◌+◌, ◌≤◌, List, length, option_map}
use Rattle.scenario_values.specs.Scenario.{Entries, entry_of}

pub record Seeking (s left : Entries) (name : List ℕ) (entry : ℕ) : Type 0 where
  pub few : entry + length left ≤ 256
  pub so_far : option_map (λ n. entry + n) (entry_of left name) ≡ entry_of s name
