-- What the values in the code say of a run: how far it has come, and what the logs hold by then.
use Rattle.commit_target.specs.declared.work.Vote.{Vote}
use Rattle.commit_target.specs.declared.work.Vote.TheVariants.{Yes, No}
use Rattle.std.specs.Prelude.{◌<◌, ◌≤◌, ◌+◌, length, [], ◌∷◌, ℕ, ◌≡◌, Bool, true, false, List, Option, None, Result, Ok, Err, slice_index_or}
use Rattle.action_eval.specs.Answers.{Run, stopped}
use Rattle.target_trait.specs.Machine.{Reached}
use Rattle.commit_target.specs.declared.cut.Cut.{Cut}
use Rattle.commit_target.specs.declared.cut.Cut.TheVariants as cut
use Rattle.commit_target.specs.declared.script.Script.{Script}
use Rattle.commit_target.specs.declared.variant.Variant.{Variant}
use Rattle.commit_target.specs.declared.records.Write.{Write}
use Rattle.commit_target.specs.Words.{send_prepare_point, force_prepare_point, send_vote_point}
use Rattle.commit_target.specs.Words.{send_outcome_point, force_outcome_point, send_ack_point}
use Rattle.commit_target.specs.Work.{Work, wish}
use Rattle.commit_target.specs.Writes.{Event, AllLogs, LogsStandFor}
use Rattle.commit_target.specs.Steps.{Over, at_step, abort_to, commit_to, end_unless, one_of, prepare_to, Tally, State, machine}
use Rattle.commit_target.specs.Steps.{on_go, on_return, go_write, then_write, return_write, with_write}

-- What holds if a run is over. If memory was refused, nothing is said.
abbrev pub OnCut : Cut → Type 0 → Type 0
OnCut cut.Over halted = halted
OnCut cut.Refused halted = Unit {0}

abbrev pub Leads : {X : Type 0} → Result X Cut → (X → Type 0) → Type 0 → Type 0
Leads (Ok x) on halted = on x
Leads (Err cut) on halted = OnCut cut halted

-- A run that nothing has stopped has reached this state.
pub record Here (v : Variant) (w : Work) (r : Run) (s : State) : Type 0 where
  pub points : 7 ≤ length r.given.catalogue
  pub running : stopped r ≡ None
  pub reached : Reached (machine v w) r s

-- The steps have come this far, and so have the logs, except that these writes are still to be made.
pub record BothDue (v : Variant) (w : Work) (r : Run) (t : Tally) (first second : Option Write) (logs : AllLogs) : Type 0 where
  pub events : List Event
  pub here : Here v w r (record { tally = t; events = with_write second (with_write first events) })
  pub written : LogsStandFor w.participants logs events

abbrev pub Due : Variant → Work → Run → Tally → Option Write → AllLogs → Type 0
Due v w r t write logs = BothDue v w r t write None logs

abbrev pub Stands : Variant → Work → Run → Tally → AllLogs → Type 0
Stands v w r t logs = Due v w r t None logs

-- The run is over, with this tally.
pub record Ended (v : Variant) (w : Work) (r : Run) (t : Tally) (logs : AllLogs) : Type 0 where
  pub events : List Event
  pub reached : Reached (machine v w) r (record { tally = t; events = events })
  pub written : LogsStandFor w.participants logs events

-- The same three for a script.
abbrev pub DueBy : Script → Run → Tally → Option Write → AllLogs → Type 0
DueBy s r t write logs = Due s.variant s.workload.now r t write logs

abbrev pub StandsBy : Script → Run → Tally → AllLogs → Type 0
StandsBy s r t logs = Stands s.variant s.workload.now r t logs

abbrev pub EndedBy : Script → Run → Tally → AllLogs → Type 0
EndedBy s r t logs = Ended s.variant s.workload.now r t logs

-- The commit is sent to this participant next. After the last one the second phase is over, except that the end record may still have to be written.
abbrev pub TellsNext : Script → Run → Tally → Option ℕ → AllLogs → Type 0
TellsNext s r t next logs = DueBy s r (commit_to s.variant s.workload.now t next) (end_unless s.variant t t.acknowledged next) logs

-- A part of a script goes on with a value for which `on` holds, or the run is over.
abbrev pub LeadsOn : {X : Type 0} → Result X Cut → Script → Run → Tally → AllLogs → (X → Type 0) → Type 0
LeadsOn result s r t logs on = Leads result on (EndedBy s r (at_step t Over) logs)

-- A part of a script leads to this tally, and the logs have come as far; or the run is over.
abbrev pub LeadsTo : {X : Type 0} → Result X Cut → Script → Run → Tally → AllLogs → (X → Tally) → Type 0
LeadsTo result s r t logs next = LeadsOn result s r t logs (λ x. StandsBy s r (next x) logs)

-- What an answer leads to: the step is done (true), or it fails (false).
abbrev pub Answered : Variant → Work → Run → Tally → AllLogs → Bool → Type 0
Answered v w r t logs true = BothDue v w r (on_go v w t t.step) (go_write v w t t.step) (then_write v t t.step) logs
Answered v w r t logs false = Due v w r (on_return v w t t.step) (return_write v w t t.step) logs

-- This participant is asked to prepare next; if there is none, the votes are complete.
abbrev pub at_vote : Work → Tally → ℕ → List Event → State
at_vote w t i es = record { tally = prepare_to w t (one_of i w.participants); events = es }

-- The `count` wishes from number `first` on are yes.
abbrev pub AllYes : List Vote → ℕ → ℕ → Type 0
AllYes votes first count = (k : ℕ) → k < count → slice_index_or votes (first + k) No ≡ Yes

-- The `count` participants from number `first` on wish yes.
abbrev pub WishYes : Work → ℕ → ℕ → ℕ → Type 0
WishYes w transaction first count = (k : ℕ) → k < count → wish w transaction (first + k) ≡ Yes

-- The points that are asked for a participant that wishes yes.
abbrev pub vote_points : List ℕ
vote_points = send_prepare_point ∷ force_prepare_point ∷ send_vote_point ∷ []

-- The commit is sent to this participant next; if there is none, the second phase is over, except that the end record may still have to be written.
abbrev pub at_commit : Variant → Work → Tally → ℕ → List Event → State
at_commit v w t i es = record {
  tally = commit_to v w t (one_of i w.participants);
  events = with_write (end_unless v t t.acknowledged (one_of i w.participants)) es;
}

-- The points that are asked for a participant to which the commit is sent.
abbrev pub commit_points : List ℕ
commit_points = send_outcome_point ∷ force_outcome_point ∷ send_ack_point ∷ []

-- The abort is sent next to the participant at this place among those whose yes arrived; if there is none, the next transaction is begun.
abbrev pub at_abort : Work → Tally → ℕ → List Event → State
at_abort w t k es = record { tally = abort_to w t (one_of k (length t.yes)); events = es }
