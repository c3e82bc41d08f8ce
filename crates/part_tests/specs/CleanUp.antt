-- What a target asks that cleans up: its write and, if that is refused, its undo. An undo that is refused breaks the promise.
use Rattle.std.specs.Prelude.{ℕ, List, [], ◌∷◌, ◌++◌, codes}
use Rattle.std.proofs.Common.{arith}
use Rattle.action_eval.specs.Answers.{Reply, Go, Return, Halt}
use Rattle.target_trait.specs.declared.judgement.Judgement.TheVariants.{Kept, Broken}
use Rattle.target_trait.specs.Play.{Move, Ask, Done, IsWithin, IsDone}

abbrev pub point_names : List (List ℕ)
point_names = codes "step::write" ∷ codes "step::undo" ∷ []

-- What is asked after the write was refused.
abbrev pub undo_of : List Reply → Move
undo_of [] = Ask 1
undo_of (Go ∷ rest) = Done Kept
undo_of (Return text ∷ rest) = Done (Broken 0)
undo_of (Halt ∷ rest) = Done Kept

abbrev pub asks_of : List Reply → Move
asks_of [] = Ask 0
asks_of (Go ∷ rest) = Done Kept
asks_of (Return text ∷ rest) = undo_of rest
asks_of (Halt ∷ rest) = Done Kept

undo_within : (answers : List Reply) → IsWithin 2 (undo_of answers)
undo_within [] = omega arith
undo_within (Go ∷ rest) = tt
undo_within (Return text ∷ rest) = tt
undo_within (Halt ∷ rest) = tt

-- Each question is about one of the two points.
pub asks-within : (answers : List Reply) → IsWithin 2 (asks_of answers)
asks-within [] = omega arith
asks-within (Go ∷ rest) = tt
asks-within (Return text ∷ rest) = undo_within rest
asks-within (Halt ∷ rest) = tt

undo_halts : (before after : List Reply) → IsDone (undo_of (before ++ Halt ∷ after))
undo_halts [] after = tt
undo_halts (Go ∷ rest) after = tt
undo_halts (Return text ∷ rest) after = tt
undo_halts (Halt ∷ rest) after = tt

-- No question follows a halt.
pub asks-halts : (before after : List Reply) → IsDone (asks_of (before ++ Halt ∷ after))
asks-halts [] after = tt
asks-halts (Go ∷ rest) after = tt
asks-halts (Return text ∷ rest) after = undo_halts rest after
asks-halts (Halt ∷ rest) after = tt
