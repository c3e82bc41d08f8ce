-- A shelf onto which two things are put, one after the other. All that was put is pending until the power is cut.
use Rattle.std.specs.Prelude.{ℕ, ◌==◌, if◌then◌else◌, Bool, List, length, Option, Some, None}
use Rattle.target_trait.specs.declared.judgement.Judgement.{Judgement}
use Rattle.target_trait.specs.declared.judgement.Judgement.TheVariants.{Kept, Broken}
use Rattle.target_trait.specs.Play.{IsWithin, move_by}
use Rattle.target_trait.specs.Protocol.{Table}
use Rattle.target_trait.specs.Cuts.{CutTable}
use Rattle.std.proofs.Common.{arith}
use Rattle.target_tests.specs.declared.shelf.Shelf.{Shelf}
use Rattle.target_tests.specs.declared.shelf.Shelf.TheVariants as shelf

abbrev pub point_of : Shelf → Option ℕ
point_of shelf.Empty = Some 0
point_of shelf.FirstPut = Some 0
point_of shelf.FirstRefused = Some 0
point_of (shelf.Over count) = None

abbrev pub put : Shelf → Shelf
put shelf.Empty = shelf.FirstPut
put shelf.FirstPut = shelf.Over 2
put shelf.FirstRefused = shelf.Over 1
put (shelf.Over count) = shelf.Over count

abbrev pub refused : Shelf → Shelf
refused shelf.Empty = shelf.FirstRefused
refused shelf.FirstPut = shelf.Over 1
refused shelf.FirstRefused = shelf.Over 0
refused (shelf.Over count) = shelf.Over count

abbrev pub table : Table Shelf
table = record { first = shelf.Empty; point = point_of; go = put; fail = λ s text. refused s; judge = λ s. Kept }

-- How many things were put.
abbrev pub count_of : Shelf → ℕ
count_of shelf.Empty = 0
count_of shelf.FirstPut = 1
count_of shelf.FirstRefused = 0
count_of (shelf.Over count) = count

-- A cut that is asked about anything breaks the promise, so that a test sees it.
abbrev pub cut_table : CutTable Shelf
cut_table = record { pending = count_of; judge = λ s keep. if length keep == 0 then Kept else Broken 5 }

pub shelf-within : (s : Shelf) → IsWithin 1 (move_by Kept (point_of s))
shelf-within shelf.Empty = omega arith
shelf-within shelf.FirstPut = omega arith
shelf-within shelf.FirstRefused = omega arith
shelf-within (shelf.Over count) = tt
