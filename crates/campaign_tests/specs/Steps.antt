-- What a meeting asks: its two points one after the other, and nothing after a halt. Two returns break the promise.
use Rattle.std.specs.Prelude.{ℕ, List, [], ◌∷◌, ◌++◌, codes}
use Rattle.std.proofs.Common.{arith}
use Rattle.action_eval.specs.Answers.{Reply, Go, Return, Halt}
use Rattle.target_trait.specs.declared.judgement.Judgement.TheVariants.{Kept, Broken}
use Rattle.target_trait.specs.Play.{Move, Ask, Done, IsWithin, IsDone}

abbrev pub point_names : List (List ℕ)
point_names = codes "meet::a" ∷ codes "meet::b" ∷ []

abbrev pub asks_of : List Reply → Move
asks_of [] = Ask 0
asks_of (Halt ∷ rest) = Done Kept
asks_of (Go ∷ []) = Ask 1
asks_of (Go ∷ (second ∷ rest)) = Done Kept
asks_of (Return text ∷ []) = Ask 1
asks_of (Return text ∷ (Go ∷ rest)) = Done Kept
asks_of (Return text ∷ (Halt ∷ rest)) = Done Kept
asks_of (Return text ∷ (Return other ∷ rest)) = Done (Broken 0)

-- Each question is about one of the two points.
pub asks-within : (answers : List Reply) → IsWithin 2 (asks_of answers)
asks-within [] = omega arith
asks-within (Halt ∷ rest) = tt
asks-within (Go ∷ []) = omega arith
asks-within (Go ∷ (second ∷ rest)) = tt
asks-within (Return text ∷ []) = omega arith
asks-within (Return text ∷ (Go ∷ rest)) = tt
asks-within (Return text ∷ (Halt ∷ rest)) = tt
asks-within (Return text ∷ (Return other ∷ rest)) = tt

-- No question follows a halt.
pub asks-halts : (before after : List Reply) → IsDone (asks_of (before ++ Halt ∷ after))
asks-halts [] after = tt
asks-halts (Halt ∷ rest) after = tt
asks-halts (Go ∷ []) after = tt
asks-halts (Go ∷ (second ∷ rest)) after = tt
asks-halts (Return text ∷ []) after = tt
asks-halts (Return text ∷ (Go ∷ rest)) after = tt
asks-halts (Return text ∷ (Halt ∷ rest)) after = tt
asks-halts (Return text ∷ (Return other ∷ rest)) after = tt
