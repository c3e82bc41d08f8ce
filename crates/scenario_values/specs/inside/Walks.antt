-- The place of a walk over the faults of a scenario in an ascending set of their numbers. Private contracts of `keep` cite it.
use Rattle.std.specs.Prelude.{◌≡◌, ℕ, ◌<◌, List, [], ◌∷◌, nat_le, filter, drop}
use Rattle.std.specs.List.{AllByRecursion}

-- Each number is below all that follow it.
abbrev pub Ascends : List ℕ → Type 0
Ascends [] = Unit {0}
Ascends (k ∷ ks) = AllByRecursion (λ n. k < n) ks × Ascends ks

-- The first `passed` members of the set are below this number, and the others aren't.
abbrev pub StandsAt : List ℕ → ℕ → ℕ → Type 0
StandsAt set number passed = drop passed set ≡ filter (λ k. nat_le number k) set
