-- A set of faults as its runs. A run is a stretch without gaps, given by its first and its last fault.
use Rattle.std.specs.Prelude.{◌≡◌, ℕ, ◌+◌, ◌-◌, ◌≤◌, List, [], ◌∷◌, ◌++◌}
use Rattle.std.specs.List.{range_with_len}

-- The faults of these runs.
abbrev pub faults_of : List (ℕ × ℕ) → List ℕ
faults_of [] = []
faults_of (run ∷ runs) = range_with_len run.0 (run.1 + 1 - run.0) ++ faults_of runs

-- The next run, if there is one, doesn't start right after the end of this one.
abbrev pub IsApart : ℕ × ℕ → List (ℕ × ℕ) → Type 0
IsApart run [] = Unit {0}
IsApart run (next ∷ runs) = run.1 + 1 ≡ next.0 → ⊥

-- Each run has a fault, and none could be joined to the next.
abbrev pub AreApart : List (ℕ × ℕ) → Type 0
AreApart [] = Unit {0}
AreApart (run ∷ runs) = (run.0 ≤ run.1) × (IsApart run runs × AreApart runs)
