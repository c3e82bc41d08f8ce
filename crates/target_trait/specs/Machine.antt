-- What a target asks, as a machine: a first state, the state that an answer leads to, and what each state asks. Protocols are written in this form,
-- and what is asked after a list of answers follows from it.
use Rattle.std.specs.Prelude.{◌≡◌, ℕ, List, [], ◌∷◌}
use Rattle.action_eval.specs.Answers.{Reply, Go, Halt, Run, replies}
use Rattle.target_trait.specs.Play.{Move, Ask, Follows, IsDone}

pub record Machine (S : Type 0) : Type 0 where
  pub first : S
  pub step : S → Reply → S
  pub move : S → Move

-- The state to which answers lead from another state.
abbrev pub led : {S : Type 0} → Machine S → S → List Reply → S
led m s [] = s
led m s (a ∷ answers) = led m (m.step s a) answers

-- The state after these answers.
abbrev pub after : {S : Type 0} → Machine S → List Reply → S
after m answers = led m m.first answers

-- What is asked after these answers.
abbrev pub asks_by : {S : Type 0} → Machine S → List Reply → Move
asks_by m answers = m.move (after m answers)

-- A run in which only the points that were asked were hit has reached this state.
pub record Reached {S : Type 0} (m : Machine S) (r : Run) (s : S) : Type 0 where
  pub asked : Follows (asks_by m) r.given [] r.hits
  pub here : after m (replies r) ≡ s

-- These points are asked one after another from a state on, as long as each answer is `Go`.
abbrev pub AsksInTurn : {S : Type 0} → Machine S → S → List ℕ → Type 0
AsksInTurn m s [] = Unit {0}
AsksInTurn m s (p ∷ ps) = (m.move s ≡ Ask p) × AsksInTurn m (m.step s Go) ps

-- The states in which a run is over: nothing is asked in them, no answer leaves them, and each halt leads to one of them.
pub record EndsBy {S : Type 0} (m : Machine S) (IsOver : S → Type 0) : Type 0 where
  pub done : (s : S) → IsOver s → IsDone (m.move s)
  pub stays : (s : S) (a : Reply) → IsOver s → IsOver (m.step s a)
  pub halts : (s : S) → IsOver (m.step s Halt)
