-- A component as a table of its steps: where a run begins, the point that each step asks, what is done if the step goes on and what if it fails, and
-- the judgement at the end. What is asked after a list of answers follows from the table.
use Rattle.std.specs.Prelude.{ℕ, suc, Bool, true, false, List, Option}
use Rattle.action_eval.specs.Answers.{Given, Reply, Go, Return, Halt, replies, start}
use Rattle.target_trait.specs.declared.judgement.Judgement.{Judgement}
use Rattle.target_trait.specs.Play.{Move, Done, move_by}
use Rattle.target_trait.specs.Machine.{Machine, after, asks_by}
use Rattle.target_trait.specs.Outcomes.{play}

pub record Table (S : Type 0) : Type 0 where
  pub first : S
  -- The point of the step that comes next. If there is none, the run is over.
  pub point : S → Option ℕ
  pub go : S → S
  -- The step fails. The text is the one that the answer returns, if it has one.
  pub fail : S → Option (List ℕ) → S
  pub judge : S → Judgement

-- The table's state after an answer to its step. After a halt nothing is done.
abbrev pub table_step : {S : Type 0} → Table S → S × Bool → Reply → S × Bool
table_step t (s, true) a = (s, true)
table_step t (s, false) Go = (t.go s, false)
table_step t (s, false) (Return text) = (t.fail s text, false)
table_step t (s, false) Halt = (s, true)

-- What comes next. After a halt that is only the judgement.
abbrev pub table_move : {S : Type 0} → Table S → S × Bool → Move
table_move t (s, true) = Done (t.judge s)
table_move t (s, false) = move_by (t.judge s) (t.point s)

-- The machine of a table. Its states are those of the table, each with whether a halt was answered.
abbrev pub by_table : {S : Type 0} → Table S → Machine (S × Bool)
by_table t = record { first = (t.first, false); step = table_step t; move = table_move t }

-- The state to which these answers lead. If one of them is a halt, it is the state in which the run was halted.
abbrev pub state_after : {S : Type 0} → Table S → List Reply → S
state_after t answers = (after (by_table t) answers).0

-- The state in which the run of a case is judged.
abbrev pub last_state : {S : Type 0} → Table S → Given → S
last_state t g = state_after t (replies (play (suc g.limit) (asks_by (by_table t)) (start g)))
