-- The chunks that are still to be written.
use Rattle.std.specs.Prelude.{ℕ, List, drop}
use Rattle.file_replace.specs.declared.rest.Rest.{Rest}

abbrev pub left : Rest → List (List ℕ)
left r = drop r.from r.chunks.now
