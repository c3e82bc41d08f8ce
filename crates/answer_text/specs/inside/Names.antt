-- How names are looked up. Private contracts cite it.
use Rattle.std.specs.Prelude.{◌≡◌, ℕ, List, position}
use Rattle.std.specs.Borrow.{Bor}
use Rattle.std.specs.Map.{lookup}
use Rattle.std.specs.Str.{bytes_eq}

-- The entries have the first place of each name.
abbrev pub IsIndexOf : List (Bor (List ℕ) × ℕ) → List (List ℕ) → Type 0
IsIndexOf entries names = (name : List ℕ) → lookup (λ k. bytes_eq name k.now) entries ≡ position (bytes_eq name) names
