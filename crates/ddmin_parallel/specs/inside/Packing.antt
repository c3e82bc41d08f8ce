-- How the code packs a list of faults into runs.
use Rattle.std.specs.Prelude.{ℕ, ◌+◌, List, [], ◌∷◌, if◌then◌else◌, ◌==◌}

-- The runs with one more fault at the end. If it follows the last run directly, that run becomes longer.
abbrev pub with_fault : List (ℕ × ℕ) → ℕ → List (ℕ × ℕ)
with_fault [] x = (x, x) ∷ []
with_fault (run ∷ []) x = if run.1 + 1 == x then (run.0, x) ∷ [] else run ∷ (x, x) ∷ []
with_fault (run ∷ next ∷ runs) x = run ∷ with_fault (next ∷ runs) x

abbrev pub with_faults : List (ℕ × ℕ) → List ℕ → List (ℕ × ℕ)
with_faults runs [] = runs
with_faults runs (x ∷ xs) = with_faults (with_fault runs x) xs

-- The runs of these faults.
abbrev pub runs_of : List ℕ → List (ℕ × ℕ)
runs_of faults = with_faults [] faults
