-- What the target of three codes asks: its three points, one after the other, and nothing after a halt.
use Rattle.std.specs.Prelude.{ℕ, ◌==◌, if◌then◌else◌, List, [], ◌∷◌, ◌++◌, codes}
use Rattle.std.proofs.Common.{arith}
use Rattle.action_eval.specs.Answers.{Reply, Go, Return, Halt}
use Rattle.target_trait.specs.declared.judgement.Judgement.{Judgement}
use Rattle.target_trait.specs.declared.judgement.Judgement.TheVariants.{Kept, Broken}
use Rattle.target_trait.specs.Play.{Move, Ask, Done, IsWithin, IsDone}

abbrev pub point_names : List (List ℕ)
point_names = codes "three::a" ∷ codes "three::b" ∷ codes "three::c" ∷ []

abbrev pub code_text : ℕ → List ℕ
code_text code = if code == 0 then codes "outer" else (if code == 1 then codes "cut" else codes "inner")

-- The judgement, by the answers of the three points. The promise is broken if the outer points fail, if the inner one fails and the run halts after
-- it, or if the inner one fails alone.
abbrev pub judged : Reply → Reply → Reply → Judgement
judged (Return a) b (Return c) = Broken 0
judged Go (Return b) Halt = Broken 1
judged Go (Return b) Go = Broken 2
judged a b c = Kept

abbrev pub last_of : Reply → Reply → List Reply → Move
last_of a b [] = Ask 2
last_of a b (c ∷ rest) = Done (judged a b c)

abbrev pub second_of : Reply → List Reply → Move
second_of a [] = Ask 1
second_of a (Halt ∷ rest) = Done Kept
second_of a (Go ∷ rest) = last_of a Go rest
second_of a (Return text ∷ rest) = last_of a (Return text) rest

abbrev pub asks_of : List Reply → Move
asks_of [] = Ask 0
asks_of (Halt ∷ rest) = Done Kept
asks_of (Go ∷ rest) = second_of Go rest
asks_of (Return text ∷ rest) = second_of (Return text) rest

within_second : (a : Reply) (answers : List Reply) → IsWithin 3 (second_of a answers)
within_second a [] = omega arith
within_second a (Halt ∷ rest) = tt
within_second a (Go ∷ []) = omega arith
within_second a (Go ∷ (c ∷ rest)) = tt
within_second a (Return text ∷ []) = omega arith
within_second a (Return text ∷ (c ∷ rest)) = tt

-- Each question is about one of the three points.
pub asks-within : (answers : List Reply) → IsWithin 3 (asks_of answers)
asks-within [] = omega arith
asks-within (Halt ∷ rest) = tt
asks-within (Go ∷ rest) = within_second Go rest
asks-within (Return text ∷ rest) = within_second (Return text) rest

halts_second : (a : Reply) (before after : List Reply) → IsDone (second_of a (before ++ Halt ∷ after))
halts_second a [] after = tt
halts_second a (Halt ∷ rest) after = tt
halts_second a (Go ∷ []) after = tt
halts_second a (Go ∷ (c ∷ rest)) after = tt
halts_second a (Return text ∷ []) after = tt
halts_second a (Return text ∷ (c ∷ rest)) after = tt

-- No question follows a halt.
pub asks-halts : (before after : List Reply) → IsDone (asks_of (before ++ Halt ∷ after))
asks-halts [] after = tt
asks-halts (Halt ∷ rest) after = tt
asks-halts (Go ∷ rest) after = halts_second Go rest after
asks-halts (Return text ∷ rest) after = halts_second (Return text) rest after
