-- What the target of the tests asks: its one step, and it is broken where that is refused.
use Rattle.std.specs.Prelude.{List, [], ◌∷◌, ◌++◌}
use Rattle.std.proofs.Common.{arith}
use Rattle.action_eval.specs.Answers.{Reply, Go, Return, Halt}
use Rattle.target_trait.specs.declared.judgement.Judgement.TheVariants.{Kept, Broken}
use Rattle.target_trait.specs.Play.{Move, Ask, Done, IsWithin, IsDone}

abbrev pub step : List Reply → Move
step [] = Ask 0
step (Go ∷ rest) = Done Kept
step (Return text ∷ rest) = Done (Broken 4)
step (Halt ∷ rest) = Done Kept

pub step-within : (answers : List Reply) → IsWithin 1 (step answers)
step-within [] = omega arith
step-within (Go ∷ rest) = tt
step-within (Return text ∷ rest) = tt
step-within (Halt ∷ rest) = tt

pub step-halts : (before after : List Reply) → IsDone (step (before ++ Halt ∷ after))
step-halts [] after = tt
step-halts (Go ∷ rest) after = tt
step-halts (Return text ∷ rest) after = tt
step-halts (Halt ∷ rest) after = tt
