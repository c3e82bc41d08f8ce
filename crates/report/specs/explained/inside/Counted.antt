-- How often each point was hit until now. Private contracts cite it.
use Rattle.std.specs.Prelude.{◌≡◌, ◌<◌, ◌==◌, ℕ, List, length, count_by, slice_index_or}
use Rattle.action_eval.specs.Answers.{Hit}

-- The count at each place is how many of these hits are of the point with that number.
abbrev pub AreCounts : List ℕ → List Hit → Type 0
AreCounts counts hits = (p : ℕ) → p < length counts → slice_index_or counts p 0 ≡ count_by (λ h. h.point == p) hits
