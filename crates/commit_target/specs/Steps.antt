-- The steps of a run as a function of the list of answers: what is asked, what each answer makes the parties write, and where it leads. The protocol
-- is two-phase commit with presumed abort: a participant forces its prepare record before it sends a yes; the decision to commit is a forced commit
-- record; a commit is acknowledged and then ended; and the coordinator writes no record of an abort, which isn't acknowledged either.
use Rattle.std.specs.Prelude.{◌≡◌, ℕ, ◌+◌, ◌-◌, ◌==◌, nat_lt, if◌then◌else◌, Bool, true, false, List, [], ◌∷◌, ◌++◌, Option, Some, None, length, slice_index_or}
use Rattle.action_eval.specs.Answers.{Reply, Go, Return, Halt}
use Rattle.target_trait.specs.declared.judgement.Judgement.{Judgement}
use Rattle.target_trait.specs.Machine.{Machine, led, asks_by}
use Rattle.target_trait.specs.Play.{Move, move_by, IsWithin, IsDone}
use Rattle.target_trait.proofs.Machine.{within_by, halts_by}
use Rattle.std.proofs.Common.{arith, refl, ap, sym, subst}
use Rattle.commit_target.specs.declared.variant.Variant.{Variant}
use Rattle.commit_target.specs.declared.variant.Variant.TheVariants.{Sound, LazyPrepare, EarlyEnd, TwoTries, EndFirst}
use Rattle.commit_target.specs.declared.work.Vote.{Vote}
use Rattle.commit_target.specs.declared.work.Vote.TheVariants.{Yes, No}
use Rattle.commit_target.specs.declared.records.Record.{Record}
use Rattle.commit_target.specs.declared.records.Kind.{Kind}
use Rattle.commit_target.specs.declared.records.Kind.TheVariants as kind
use Rattle.commit_target.specs.declared.records.Party.TheVariants.{Coordinator, Participant}
use Rattle.commit_target.specs.declared.records.Write.{Write}
use Rattle.commit_target.specs.declared.records.Write.TheVariants.{Append, Force}
use Rattle.commit_target.specs.Words.{send_prepare_point, force_prepare_point, send_vote_point, force_commit_point}
use Rattle.commit_target.specs.Words.{send_outcome_point, force_outcome_point, send_ack_point}
use Rattle.commit_target.specs.Work.{Work, wish}
use Rattle.commit_target.specs.Writes.{Event, Written}
use Rattle.commit_target.specs.Judgement.{judged}

-- The step that is asked for next. Participants are numbered from 0.
pub data Step : Type 0 where
  -- The coordinator asks the participant to prepare.
  SendPrepare : ℕ → Step
  -- The participant writes its prepare record.
  ForcePrepare : ℕ → Step
  -- The participant sends this vote.
  SendVote : ℕ → Vote → Step
  -- Every yes arrived, and the coordinator forces the commit record.
  ForceCommit : Step
  -- The coordinator tries to force the commit record once more.
  ForceCommitAgain : Step
  -- The coordinator tells the participant that the transaction is committed.
  SendCommit : ℕ → Step
  -- The participant forces its commit record.
  ForceOutcome : ℕ → Step
  -- The participant acknowledges the commit.
  SendAck : ℕ → Step
  -- The coordinator tells the participant at this place, among those whose yes arrived, that the transaction is aborted.
  SendAbort : ℕ → Step
  -- Nothing more is asked.
  Over : Step

-- How far the transactions have come.
pub record Tally : Type 0 where
  pub step : Step
  -- How many transactions were begun. The last of them is under way.
  pub begun : ℕ
  -- The participants whose yes arrived, in order.
  pub yes : List ℕ
  -- Whether no participant's acknowledgement of the commit is missing yet.
  pub acknowledged : Bool
  -- The transactions that the client was told are committed.
  pub told : List ℕ

-- The tally, and what happened to the logs, the newest event first.
pub record State : Type 0 where
  pub tally : Tally
  pub events : List Event

-- The number of the transaction under way, from 0.
abbrev pub number : Tally → ℕ
number t = t.begun - 1

abbrev pub at_step : Tally → Step → Tally
at_step t step = record { step = step; begun = t.begun; yes = t.yes; acknowledged = t.acknowledged; told = t.told }

abbrev pub with_yes : Tally → ℕ → Tally
with_yes t i = record { step = t.step; begun = t.begun; yes = t.yes ++ i ∷ []; acknowledged = t.acknowledged; told = t.told }

-- The tally after an acknowledgement turned out to be missing.
abbrev pub unacknowledged : Tally → Tally
unacknowledged t = record { step = t.step; begun = t.begun; yes = t.yes; acknowledged = false; told = t.told }

-- The tally after the client was told that the transaction under way is committed.
abbrev pub with_told : Tally → Tally
with_told t = record { step = t.step; begun = t.begun; yes = t.yes; acknowledged = t.acknowledged; told = t.told ++ number t ∷ [] }

-- The number i if it is one of the first `count` numbers, else none. Below: the first number, and the one after i.
abbrev pub one_of : ℕ → ℕ → Option ℕ
one_of i count = if nat_lt i count then Some i else None

abbrev pub first_of : ℕ → Option ℕ
first_of count = one_of 0 count

abbrev pub next_of : ℕ → ℕ → Option ℕ
next_of i count = one_of (i + 1) count

-- ---- between transactions

-- The tally after one more transaction was begun.
abbrev pub opened : Tally → Tally
opened t = record { step = t.step; begun = t.begun + 1; yes = []; acknowledged = true; told = t.told }

-- Begins the next transaction with its first question. If there is no further transaction, the run is over.
abbrev pub begun : Work → Tally → Tally
begun w t = if nat_lt t.begun (length w.transactions) then at_step (opened t) (SendPrepare 0) else at_step t Over

-- ---- the second phase

-- The second phase of a commit is over. If an acknowledgement is missing by then, `end_first` asks nothing more.
abbrev pub after_phase : Variant → Work → Tally → Tally
after_phase Sound w t = begun w t
after_phase LazyPrepare w t = begun w t
after_phase EarlyEnd w t = begun w t
after_phase TwoTries w t = begun w t
after_phase EndFirst w t = if t.acknowledged then begun w t else at_step t Over

-- The commit is sent to this participant. If there is none, the second phase is over.
abbrev pub commit_to : Variant → Work → Tally → Option ℕ → Tally
commit_to v w t (Some i) = at_step t (SendCommit i)
commit_to v w t None = after_phase v w t

abbrev pub after_commit_to : Variant → Work → Tally → ℕ → Tally
after_commit_to v w t i = commit_to v w t (next_of i w.participants)

-- The abort is sent to the participant at this place among those whose yes arrived. If there is none, the next transaction is begun.
abbrev pub abort_to : Work → Tally → Option ℕ → Tally
abort_to w t (Some k) = at_step t (SendAbort k)
abort_to w t None = begun w t

abbrev pub aborted : Work → Tally → Tally
aborted w t = abort_to w t (first_of (length t.yes))

abbrev pub after_abort_to : Work → Tally → ℕ → Tally
after_abort_to w t k = abort_to w t (next_of k (length t.yes))

-- The decision is to commit, and the client is told.
abbrev pub committed : Tally → Tally
committed t = at_step (with_told t) (SendCommit 0)

-- ---- the first phase

-- The decision is to commit only if every participant's yes arrived.
abbrev pub decided : Work → Tally → Tally
decided w t = if length t.yes == w.participants then at_step t ForceCommit else aborted w t

abbrev pub prepare_to : Work → Tally → Option ℕ → Tally
prepare_to w t (Some i) = at_step t (SendPrepare i)
prepare_to w t None = decided w t

-- The participant has voted, or its vote is lost.
abbrev pub after_vote : Work → Tally → ℕ → Tally
after_vote w t i = prepare_to w t (next_of i w.participants)

-- A participant that wishes yes prepares first.
abbrev pub vote_step : Vote → ℕ → Step
vote_step Yes i = ForcePrepare i
vote_step No i = SendVote i No

abbrev pub with_vote : Tally → ℕ → Vote → Tally
with_vote t i Yes = with_yes t i
with_vote t i No = t

-- What follows if the commit record can't be forced: `two_tries` tries once more, and the others abort.
abbrev pub after_no_commit : Variant → Work → Tally → Tally
after_no_commit Sound w t = aborted w t
after_no_commit LazyPrepare w t = aborted w t
after_no_commit EarlyEnd w t = aborted w t
after_no_commit TwoTries w t = at_step t ForceCommitAgain
after_no_commit EndFirst w t = aborted w t

-- ---- the table of steps

-- The tally that a step leads to if it is answered with `Go`.
abbrev pub on_go : Variant → Work → Tally → Step → Tally
on_go v w t (SendPrepare i) = at_step t (vote_step (wish w (number t) i) i)
on_go v w t (ForcePrepare i) = at_step t (SendVote i Yes)
on_go v w t (SendVote i vote) = after_vote w (with_vote t i vote) i
on_go v w t ForceCommit = committed t
on_go v w t ForceCommitAgain = committed t
on_go v w t (SendCommit i) = at_step t (ForceOutcome i)
on_go v w t (ForceOutcome i) = at_step t (SendAck i)
on_go v w t (SendAck i) = after_commit_to v w t i
on_go v w t (SendAbort k) = after_abort_to w t k
on_go v w t Over = at_step t Over

-- The tally that a step leads to if it is answered with `Return`, so that it fails. What was sent is lost, and a participant that can't prepare votes
-- no. After its second try `two_tries` goes on as if the commit record had been written.
abbrev pub on_return : Variant → Work → Tally → Step → Tally
on_return v w t (SendPrepare i) = after_vote w t i
on_return v w t (ForcePrepare i) = at_step t (SendVote i No)
on_return v w t (SendVote i vote) = after_vote w t i
on_return v w t ForceCommit = after_no_commit v w t
on_return v w t ForceCommitAgain = committed t
on_return v w t (SendCommit i) = after_commit_to v w (unacknowledged t) i
on_return v w t (ForceOutcome i) = after_commit_to v w (unacknowledged t) i
on_return v w t (SendAck i) = after_commit_to v w (unacknowledged t) i
on_return v w t (SendAbort k) = after_abort_to w t k
on_return v w t Over = at_step t Over

-- ---- what is written

abbrev pub entry : Tally → Kind → Record
entry t k = record { transaction = number t; kind = k }

-- The write of a prepare record. `lazy_prepare` only appends it.
abbrev pub prepare_write : Variant → Tally → ℕ → Write
prepare_write Sound t i = Force (Participant i) (entry t kind.Prepare)
prepare_write LazyPrepare t i = Append (Participant i) (entry t kind.Prepare)
prepare_write EarlyEnd t i = Force (Participant i) (entry t kind.Prepare)
prepare_write TwoTries t i = Force (Participant i) (entry t kind.Prepare)
prepare_write EndFirst t i = Force (Participant i) (entry t kind.Prepare)

-- The write of the end record of a commit, once all have acknowledged. `early_end` forces it in any case, and `end_first` has written it earlier.
abbrev pub end_if : Bool → Tally → Option Write
end_if all t = if all then Some (Append Coordinator (entry t kind.End)) else None

abbrev pub end_write : Variant → Tally → Bool → Option Write
end_write Sound t all = end_if all t
end_write LazyPrepare t all = end_if all t
end_write EarlyEnd t all = Some (Force Coordinator (entry t kind.End))
end_write TwoTries t all = end_if all t
end_write EndFirst t all = None

-- The end record is written if there is no further participant.
abbrev pub end_unless : Variant → Tally → Bool → Option ℕ → Option Write
end_unless v t all (Some i) = None
end_unless v t all None = end_write v t all

abbrev pub go_write : Variant → Work → Tally → Step → Option Write
go_write v w t (SendPrepare i) = None
go_write v w t (ForcePrepare i) = Some (prepare_write v t i)
go_write v w t (SendVote i vote) = None
go_write v w t ForceCommit = Some (Force Coordinator (entry t kind.Commit))
go_write v w t ForceCommitAgain = Some (Force Coordinator (entry t kind.Commit))
go_write v w t (SendCommit i) = None
go_write v w t (ForceOutcome i) = Some (Force (Participant i) (entry t kind.Commit))
go_write v w t (SendAck i) = end_unless v t t.acknowledged (next_of i w.participants)
go_write v w t (SendAbort k) = Some (Append (Participant (slice_index_or t.yes k 0)) (entry t kind.Abort))
go_write v w t Over = None

-- What is written after that: `end_first` appends the end record right after the commit record, before anybody is told.
abbrev pub early_write : Variant → Tally → Option Write
early_write Sound t = None
early_write LazyPrepare t = None
early_write EarlyEnd t = None
early_write TwoTries t = None
early_write EndFirst t = Some (Append Coordinator (entry t kind.End))

abbrev pub then_write : Variant → Tally → Step → Option Write
then_write v t (SendPrepare i) = None
then_write v t (ForcePrepare i) = None
then_write v t (SendVote i vote) = None
then_write v t ForceCommit = early_write v t
then_write v t ForceCommitAgain = None
then_write v t (SendCommit i) = None
then_write v t (ForceOutcome i) = None
then_write v t (SendAck i) = None
then_write v t (SendAbort k) = None
then_write v t Over = None

abbrev pub return_write : Variant → Work → Tally → Step → Option Write
return_write v w t (SendPrepare i) = None
return_write v w t (ForcePrepare i) = None
return_write v w t (SendVote i vote) = None
return_write v w t ForceCommit = None
return_write v w t ForceCommitAgain = None
return_write v w t (SendCommit i) = end_unless v t false (next_of i w.participants)
return_write v w t (ForceOutcome i) = end_unless v t false (next_of i w.participants)
return_write v w t (SendAck i) = end_unless v t false (next_of i w.participants)
return_write v w t (SendAbort k) = None
return_write v w t Over = None

abbrev pub with_write : Option Write → List Event → List Event
with_write None es = es
with_write (Some w) es = Written w ∷ es

-- ---- a whole run

-- The state after an answer. After `Halt` nothing more is done or asked.
abbrev pub stepped : Variant → Work → State → Reply → State
stepped v w s Go = record {
  tally = on_go v w s.tally s.tally.step;
  events = with_write (then_write v s.tally s.tally.step) (with_write (go_write v w s.tally s.tally.step) s.events);
}
stepped v w s (Return text) = record { tally = on_return v w s.tally s.tally.step; events = with_write (return_write v w s.tally s.tally.step) s.events }
stepped v w s Halt = record { tally = at_step s.tally Over; events = s.events }

abbrev pub before_all : Tally
before_all = record { step = Over; begun = 0; yes = []; acknowledged = true; told = [] }

abbrev pub start_of : Work → State
start_of w = record { tally = begun w before_all; events = [] }

-- The point that a step asks.
abbrev pub point_at : Step → Option ℕ
point_at (SendPrepare i) = Some send_prepare_point
point_at (ForcePrepare i) = Some force_prepare_point
point_at (SendVote i vote) = Some send_vote_point
point_at ForceCommit = Some force_commit_point
point_at ForceCommitAgain = Some force_commit_point
point_at (SendCommit i) = Some send_outcome_point
point_at (ForceOutcome i) = Some force_outcome_point
point_at (SendAck i) = Some send_ack_point
point_at (SendAbort k) = Some send_outcome_point
point_at Over = None

abbrev pub judged_at : Work → State → Judgement
judged_at w s = judged w.participants s.tally.told s.events s.tally.begun

abbrev pub move_of : Work → State → Move
move_of w s = move_by (judged_at w s) (point_at s.tally.step)

-- The steps as a machine; what is asked after these answers; and the state to which answers lead from another state.
abbrev pub machine : Variant → Work → Machine State
machine v w = record { first = start_of w; step = stepped v w; move = move_of w }

abbrev pub asks_of : Variant → Work → List Reply → Move
asks_of v w = asks_by (machine v w)

abbrev pub laid : Variant → Work → State → List Reply → State
laid v w s answers = led (machine v w) s answers

-- ---- laws

step_within : (j : Judgement) (step : Step) → IsWithin 7 (move_by j (point_at step))
step_within j (SendPrepare i) = omega arith
step_within j (ForcePrepare i) = omega arith
step_within j (SendVote i vote) = omega arith
step_within j ForceCommit = omega arith
step_within j ForceCommitAgain = omega arith
step_within j (SendCommit i) = omega arith
step_within j (ForceOutcome i) = omega arith
step_within j (SendAck i) = omega arith
step_within j (SendAbort k) = omega arith
step_within j Over = tt

-- Each question is of one of the seven points.
pub asks-within : (v : Variant) (w : Work) (answers : List Reply) → IsWithin 7 (asks_of v w answers)
asks-within v w answers = within_by (machine v w) 7 (λ s. step_within (judged_at w s) s.tally.step) answers

over_done : (j : Judgement) (step : Step) → step ≡ Over → IsDone (move_by j (point_at step))
over_done j step e = subst (λ (x : Step). IsDone (move_by j (point_at x))) (sym e) tt

over_stays : (v : Variant) (w : Work) (s : State) (a : Reply) → s.tally.step ≡ Over → (stepped v w s a).tally.step ≡ Over
over_stays v w s Go e = ap (λ (x : Step). (on_go v w s.tally x).step) e
over_stays v w s (Return text) e = ap (λ (x : Step). (on_return v w s.tally x).step) e
over_stays v w s Halt e = refl

-- No question follows a halt.
pub asks-halts : (v : Variant) (w : Work) (before after : List Reply) → IsDone (asks_of v w (before ++ Halt ∷ after))
asks-halts v w before after =
    halts_by (machine v w) (λ s. s.tally.step ≡ Over)
    (record { done = λ s. over_done (judged_at w s) s.tally.step; stays = over_stays v w; halts = λ s. refl }) before after
