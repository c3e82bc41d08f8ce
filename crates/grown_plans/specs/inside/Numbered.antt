-- Children that are numbered by their places.
use Rattle.std.specs.Prelude.{ℕ, ◌+◌, ◌<◌, List, [], ◌∷◌}
use Rattle.grown_plans.specs.Kept.{Grew}

-- Each parent comes before its child, for children numbered from n on.
abbrev pub AreBefore : ℕ → List Grew → Type 0
AreBefore n [] = Unit {0}
AreBefore n (g ∷ gs) = (g.parent < n) × AreBefore (n + 1) gs
