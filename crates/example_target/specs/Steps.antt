-- The steps of a transfer: it takes the amount from the payer, and then gives it to the payee. If giving is refused, a careful transfer puts the
-- amount back, and a careless one does nothing. After a halt nobody puts back what was taken.
use Rattle.std.specs.Prelude.{ℕ, ◌+◌, ◌==◌, if◌then◌else◌, List, [], ◌∷◌, ◌++◌, codes}
use Rattle.std.proofs.Common.{arith}
use Rattle.action_eval.specs.Answers.{Reply, Go, Return, Halt}
use Rattle.target_trait.specs.declared.judgement.Judgement.{Judgement}
use Rattle.target_trait.specs.declared.judgement.Judgement.TheVariants.{Kept, Broken}
use Rattle.target_trait.specs.Play.{Move, Ask, Done, IsWithin, IsDone}
use Rattle.target_trait.specs.Machine.{Machine, asks_by, EndsBy}
use Rattle.target_trait.specs.MachineLaws.{within_by, halts_by}
use Rattle.example_target.specs.declared.transfer.Care.{Care}
use Rattle.example_target.specs.declared.transfer.Care.TheVariants.{Careful, Careless}

abbrev pub point_names : List (List ℕ)
point_names = codes "transfer::take" ∷ codes "transfer::give" ∷ []

abbrev pub label_of : Care → List ℕ
label_of Careful = codes "transfer careful"
label_of Careless = codes "transfer careless"

-- The promise: no cent is lost.
abbrev pub judged : ℕ → ℕ → ℕ → Judgement
judged cents payer payee = if payer + payee == cents then Kept else Broken 0

-- What the payer has if giving was refused.
abbrev pub put_back : Care → ℕ → ℕ
put_back Careful cents = cents
put_back Careless cents = 0

-- How far a transfer is: it takes, it gives, or it is over, with what the two accounts have.
pub data Step : Type 0 where
  Taking : Step
  Giving : Step
  Over : ℕ → ℕ → Step

-- What an answer makes of a step.
abbrev pub stepped : Care → ℕ → Step → Reply → Step
stepped care cents Taking Go = Giving
stepped care cents Taking (Return text) = Over cents 0
stepped care cents Taking Halt = Over cents 0
stepped care cents Giving Go = Over 0 cents
stepped care cents Giving (Return text) = Over (put_back care cents) 0
stepped care cents Giving Halt = Over 0 0
stepped care cents (Over payer payee) answer = Over payer payee

-- Which point a step asks next, or how the transfer is judged when it is over.
abbrev pub move_of : ℕ → Step → Move
move_of cents Taking = Ask 0
move_of cents Giving = Ask 1
move_of cents (Over payer payee) = Done (judged cents payer payee)

abbrev pub machine : Care → ℕ → Machine Step
machine care cents = record { first = Taking; step = stepped care cents; move = move_of cents }

abbrev pub asks_of : Care → ℕ → List Reply → Move
asks_of care cents = asks_by (machine care cents)

-- ---- the two laws of a target

move_within : (cents : ℕ) (step : Step) → IsWithin 2 (move_of cents step)
move_within cents Taking = omega arith
move_within cents Giving = omega arith
move_within cents (Over payer payee) = tt

-- Each question is about one of the two points.
pub asks-within : (care : Care) (cents : ℕ) (answers : List Reply) → IsWithin 2 (asks_of care cents answers)
asks-within care cents = within_by (machine care cents) 2 (move_within cents)

abbrev IsOver : Step → Type 0
IsOver Taking = ⊥
IsOver Giving = ⊥
IsOver (Over payer payee) = Unit {0}

over_done : (cents : ℕ) (step : Step) → IsOver step → IsDone (move_of cents step)
over_done cents Taking over = over
over_done cents Giving over = over
over_done cents (Over payer payee) over = tt

over_stays : (care : Care) (cents : ℕ) (step : Step) (answer : Reply) → IsOver step → IsOver (stepped care cents step answer)
over_stays care cents Taking answer over = absurd over
over_stays care cents Giving answer over = absurd over
over_stays care cents (Over payer payee) answer over = tt

halt_ends : (care : Care) (cents : ℕ) (step : Step) → IsOver (stepped care cents step Halt)
halt_ends care cents Taking = tt
halt_ends care cents Giving = tt
halt_ends care cents (Over payer payee) = tt

ends : (care : Care) (cents : ℕ) → EndsBy (machine care cents) IsOver
ends care cents = record { done = over_done cents; stays = over_stays care cents; halts = halt_ends care cents }

-- No question follows a halt.
pub asks-halts : (care : Care) (cents : ℕ) (before after : List Reply) → IsDone (asks_of care cents (before ++ Halt ∷ after))
asks-halts care cents = halts_by (machine care cents) IsOver (ends care cents)
