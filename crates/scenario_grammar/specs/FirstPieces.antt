-- The beginning of a scenario text, in whole pieces.
use Rattle.std.specs.Prelude.{ℕ, List, ◌==◌, take}
use Rattle.std.specs.List.{slice_split, join_with_byte}

-- The first n pieces of a text, with the `;` between them.
abbrev pub first_pieces : ℕ → List ℕ → List ℕ
first_pieces n text = join_with_byte 59 (take n (slice_split (λ b. b == 59) text))
