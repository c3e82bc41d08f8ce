-- A yes that arrived stands on a forced prepare record, whatever is answered.
use Rattle.std.proofs.Common.{◌≡◌, ℕ, ◌==◌, nat_lt, Bool, true, false, cond, List, [], ◌∷◌, length, Option, Some, None, All, slice_index_or, refl}
use Rattle.std.proofs.lemmas.List.Elements.{All-nil, All-cons, All-append}
use Rattle.sim_device.specs.FileEffects.{Lasting}
use Rattle.action_eval.specs.Answers.{Reply, Go, Return, Halt}
use Rattle.commit_target.specs.declared.variant.Variant.TheVariants.{Sound}
use Rattle.commit_target.specs.declared.work.Vote.{Vote}
use Rattle.commit_target.specs.declared.work.Vote.TheVariants.{Yes, No}
use Rattle.commit_target.specs.declared.records.Kind.TheVariants as kind
use Rattle.commit_target.specs.declared.records.Write.{Write}
use Rattle.commit_target.specs.Work.{Work, wish}
use Rattle.commit_target.specs.Writes.{Event}
use Rattle.commit_target.specs.Steps.{Step, SendPrepare, ForcePrepare, SendVote, ForceCommit, ForceCommitAgain, SendCommit, ForceOutcome, SendAck, SendAbort, Over, Tally, State, number, at_step, with_yes, unacknowledged, first_of, next_of, begun, commit_to, abort_to, aborted, decided, prepare_to, vote_step, entry, go_write, then_write, return_write, with_write, on_go, on_return, stepped, before_all, start_of, laid}
use Rattle.commit_target.proofs.Logged.{holds, is_entry, holds_stays, held}
use Rattle.commit_target.proofs.Safe.{state, first_asked}

-- this participant has forced its prepare record, and each of these has
abbrev Has : List Event → ℕ → ℕ → Type 0
Has es c n = holds es n Lasting c kind.Prepare ≡ true

abbrev Prepared : List Event → ℕ → List ℕ → Type 0
Prepared es c ns = All (Has es c) ns

-- and so has one that sends its yes
abbrev Mine : Step → List Event → ℕ → Type 0
Mine (SendPrepare i) es c = Unit {0}
Mine (ForcePrepare i) es c = Unit {0}
Mine (SendVote i Yes) es c = Has es c i
Mine (SendVote i No) es c = Unit {0}
Mine ForceCommit es c = Unit {0}
Mine ForceCommitAgain es c = Unit {0}
Mine (SendCommit i) es c = Unit {0}
Mine (ForceOutcome i) es c = Unit {0}
Mine (SendAck i) es c = Unit {0}
Mine (SendAbort k) es c = Unit {0}
Mine Over es c = Unit {0}

pub record Voted (s : State) : Type 0 where
  pub voters : Prepared s.events (number s.tally) s.tally.yes
  pub mine : Mine s.tally.step s.events (number s.tally)

stay : (write : Option Write) (es : List Event) (c : ℕ) (ns : List ℕ) → Prepared es c ns → Prepared (with_write write es) c ns
stay None es c ns h = h
stay (Some w) es c ns h = λ k d below. holds_stays w es (slice_index_or ns k d) c kind.Prepare (h k d below)

begun_voted : (w : Work) (t : Tally) (es : List Event) → Prepared es (number t) t.yes → Voted (state (begun w t) es)
begun_voted w t es h = in_case (nat_lt t.begun (length w.transactions))
  where
    in_case : (more : Bool) → Voted (state (cond more (first_asked t) (at_step t Over)) es)
    in_case true = record { voters = All-nil (Has es (number (first_asked t))); mine = tt }
    in_case false = record { voters = h; mine = tt }

commit_voted : (w : Work) (t : Tally) (es : List Event) (next : Option ℕ) → Prepared es (number t) t.yes → Voted (state (commit_to Sound w t next) es)
commit_voted w t es (Some i) h = record { voters = h; mine = tt }
commit_voted w t es None h = begun_voted w t es h

abort_voted : (w : Work) (t : Tally) (es : List Event) (next : Option ℕ) → Prepared es (number t) t.yes → Voted (state (abort_to w t next) es)
abort_voted w t es (Some k) h = record { voters = h; mine = tt }
abort_voted w t es None h = begun_voted w t es h

decided_voted : (w : Work) (t : Tally) (es : List Event) → Prepared es (number t) t.yes → Voted (state (decided w t) es)
decided_voted w t es h = in_case (length t.yes == w.participants)
  where
    in_case : (all : Bool) → Voted (state (cond all (at_step t ForceCommit) (aborted w t)) es)
    in_case true = record { voters = h; mine = tt }
    in_case false = abort_voted w t es (first_of (length t.yes)) h

vote_voted : (w : Work) (t : Tally) (es : List Event) (next : Option ℕ) → Prepared es (number t) t.yes → Voted (state (prepare_to w t next) es)
vote_voted w t es (Some i) h = record { voters = h; mine = tt }
vote_voted w t es None h = decided_voted w t es h

wish_voted : (vote : Vote) (t : Tally) (es : List Event) (i : ℕ) → Prepared es (number t) t.yes → Voted (state (at_step t (vote_step vote i)) es)
wish_voted Yes t es i h = record { voters = h; mine = tt }
wish_voted No t es i h = record { voters = h; mine = tt }

go_voted : (w : Work) (t : Tally) (es : List Event) (step : Step) → Prepared es (number t) t.yes → Mine step es (number t)
    → Voted (state (on_go Sound w t step) (with_write (then_write Sound t step) (with_write (go_write Sound w t step) es)))
go_voted w t es (SendPrepare i) h m = wish_voted (wish w (number t) i) t es i h
go_voted w t es (ForcePrepare i) h m = record {
  voters = stay (go_write Sound w t (ForcePrepare i)) es (number t) t.yes h;
  mine = held (entry t kind.Prepare) es i (number t) kind.Prepare (is_entry (number t) kind.Prepare refl);
}
go_voted w t es (SendVote i Yes) h m =
    vote_voted w (with_yes t i) es (next_of i w.participants)
    (All-append (Has es (number t)) t.yes (i ∷ []) h (All-cons (Has es (number t)) i [] m (All-nil (Has es (number t)))))
go_voted w t es (SendVote i No) h m = vote_voted w t es (next_of i w.participants) h
go_voted w t es ForceCommit h m = record { voters = stay (go_write Sound w t ForceCommit) es (number t) t.yes h; mine = tt }
go_voted w t es ForceCommitAgain h m = record { voters = stay (go_write Sound w t ForceCommitAgain) es (number t) t.yes h; mine = tt }
go_voted w t es (SendCommit i) h m = record { voters = h; mine = tt }
go_voted w t es (ForceOutcome i) h m = record { voters = stay (go_write Sound w t (ForceOutcome i)) es (number t) t.yes h; mine = tt }
go_voted w t es (SendAck i) h m =
    let write = go_write Sound w t (SendAck i) in
    commit_voted w t (with_write write es) (next_of i w.participants) (stay write es (number t) t.yes h)
go_voted w t es (SendAbort k) h m =
    let write = go_write Sound w t (SendAbort k) in
    abort_voted w t (with_write write es) (next_of k (length t.yes)) (stay write es (number t) t.yes h)
go_voted w t es Over h m = record { voters = h; mine = tt }

lost_voted : (w : Work) (t : Tally) (write : Option Write) (es : List Event) (i : ℕ) → Prepared es (number t) t.yes
    → Voted (state (commit_to Sound w (unacknowledged t) (next_of i w.participants)) (with_write write es))
lost_voted w t write es i h = commit_voted w (unacknowledged t) (with_write write es) (next_of i w.participants) (stay write es (number t) t.yes h)

return_voted : (w : Work) (t : Tally) (es : List Event) (step : Step) → Prepared es (number t) t.yes → Mine step es (number t)
    → Voted (state (on_return Sound w t step) (with_write (return_write Sound w t step) es))
return_voted w t es (SendPrepare i) h m = vote_voted w t es (next_of i w.participants) h
return_voted w t es (ForcePrepare i) h m = record { voters = h; mine = tt }
return_voted w t es (SendVote i vote) h m = vote_voted w t es (next_of i w.participants) h
return_voted w t es ForceCommit h m = abort_voted w t es (first_of (length t.yes)) h
return_voted w t es ForceCommitAgain h m = record { voters = h; mine = tt }
return_voted w t es (SendCommit i) h m = lost_voted w t (return_write Sound w t (SendCommit i)) es i h
return_voted w t es (ForceOutcome i) h m = lost_voted w t (return_write Sound w t (ForceOutcome i)) es i h
return_voted w t es (SendAck i) h m = lost_voted w t (return_write Sound w t (SendAck i)) es i h
return_voted w t es (SendAbort k) h m = abort_voted w t es (next_of k (length t.yes)) h
return_voted w t es Over h m = record { voters = h; mine = tt }

step_voted : (w : Work) (s : State) (a : Reply) → Voted s → Voted (stepped Sound w s a)
step_voted w s Go k = go_voted w s.tally s.events s.tally.step k.voters k.mine
step_voted w s (Return text) k = return_voted w s.tally s.events s.tally.step k.voters k.mine
step_voted w s Halt k = record { voters = k.voters; mine = tt }

laid_voted : (w : Work) (s : State) (answers : List Reply) → Voted s → Voted (laid Sound w s answers)
laid_voted w s [] k = k
laid_voted w s (a ∷ answers) k = laid_voted w (stepped Sound w s a) answers (step_voted w s a k)

pub yes_is_prepared : (w : Work) (answers : List Reply)
    → let s = laid Sound w (start_of w) answers in Prepared s.events (number s.tally) s.tally.yes
yes_is_prepared w answers = (laid_voted w (start_of w) answers (begun_voted w before_all [] (All-nil (Has [] (number before_all))))).voters
