use Rattle.std.specs.Prelude.{ℕ, ◌<◌, List, [], ◌∷◌}
use Rattle.std.specs.List.{AllByRecursion}

-- The first list is the second one with some members, or none, left out.
pub data IsSublist : List ℕ → List ℕ → Type 0 where
  Both : {xs ys : List ℕ} → (x : ℕ) → IsSublist xs ys → IsSublist (x ∷ xs) (x ∷ ys)
  Left : {xs ys : List ℕ} → (y : ℕ) → IsSublist xs ys → IsSublist xs (y ∷ ys)
  Done : IsSublist [] []

-- Each member is less than all that follow it.
abbrev pub Ascends : List ℕ → Type 0
Ascends [] = Unit {0}
Ascends (x ∷ xs) = AllByRecursion (λ y. x < y) xs × Ascends xs
