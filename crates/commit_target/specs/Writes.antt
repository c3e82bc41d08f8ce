-- What the parties wrote to their logs, the newest write first, and what each log then holds. It also says which records are pending over all logs:
-- those after which their log wasn't forced.
use Rattle.std.specs.Prelude.{◌≡◌, ℕ, ◌<◌, ◌≤◌, ◌==◌, not, if◌then◌else◌, Bool, true, false, List, [], ◌∷◌, ◌++◌, filter, length, slice_index_or}
use Rattle.sim_device.specs.LogEffects.{LogEffect, Append, Force, Restart, Log, LogStandsFor}
use Rattle.commit_target.specs.declared.records.Record.{Record}
use Rattle.commit_target.specs.declared.records.Party.{Party}
use Rattle.commit_target.specs.declared.records.Party.TheVariants.{Coordinator, Participant}
use Rattle.commit_target.specs.declared.records.PendingRecord.{PendingRecord}
use Rattle.commit_target.specs.declared.records.Write.{Write}
use Rattle.commit_target.specs.declared.records.Write.TheVariants as write

-- What happens to the logs: one party writes, or all parties restart.
pub data Event : Type 0 where
  Written : Write → Event
  AllRestart : Event

-- The effects on the coordinator's log.
abbrev pub on_coordinator : List Event → List (LogEffect Record)
on_coordinator [] = []
on_coordinator (Written (write.Append Coordinator r) ∷ before) = Append r ∷ on_coordinator before
on_coordinator (Written (write.Append (Participant m) r) ∷ before) = on_coordinator before
on_coordinator (Written (write.Force Coordinator r) ∷ before) = Force r ∷ on_coordinator before
on_coordinator (Written (write.Force (Participant m) r) ∷ before) = on_coordinator before
on_coordinator (AllRestart ∷ before) = Restart ∷ on_coordinator before

-- The effects on a participant's log.
abbrev pub on_participant : List Event → ℕ → List (LogEffect Record)
on_participant [] n = []
on_participant (Written (write.Append Coordinator r) ∷ before) n = on_participant before n
on_participant (Written (write.Append (Participant m) r) ∷ before) n = if n == m then Append r ∷ on_participant before n else on_participant before n
on_participant (Written (write.Force Coordinator r) ∷ before) n = on_participant before n
on_participant (Written (write.Force (Participant m) r) ∷ before) n = if n == m then Force r ∷ on_participant before n else on_participant before n
on_participant (AllRestart ∷ before) n = Restart ∷ on_participant before n

abbrev pub is_party : Party → Party → Bool
is_party Coordinator Coordinator = true
is_party Coordinator (Participant n) = false
is_party (Participant m) Coordinator = false
is_party (Participant m) (Participant n) = m == n

-- The pending records after a party's log was forced, which makes all its records last.
abbrev pub without : Party → List PendingRecord → List PendingRecord
without party pending = filter (λ p. not (is_party p.party party)) pending

-- The pending records, each with the party whose log holds it, in the order in which they were made over all logs.
abbrev pub pending : List Event → List PendingRecord
pending [] = []
pending (Written (write.Append party r) ∷ before) = pending before ++ record { party = party; entry = r } ∷ []
pending (Written (write.Force party r) ∷ before) = without party (pending before)
pending (AllRestart ∷ before) = []

-- The logs of all parties as contracts see them; whether the pending records are noted; and the list in which they are noted.
pub record AllLogs : Type 0 where
  pub coordinator : Log Record
  pub participants : List (Log Record)
  pub notes : Bool
  pub pending : List PendingRecord

abbrev pub log_at : List (Log Record) → ℕ → Log Record
log_at logs n = slice_index_or logs n (record { live = []; lasting = [] })

-- The logs of the coordinator and of this many participants are what these events give, and so are the noted pending records.
pub record LogsStandFor (count : ℕ) (logs : AllLogs) (events : List Event) : Type 0 where
  pub enough : count ≤ length logs.participants
  pub coordinator : LogStandsFor logs.coordinator (on_coordinator events)
  pub participants : (n : ℕ) → n < count → LogStandsFor (log_at logs.participants n) (on_participant events n)
  pub pending : logs.notes ≡ true → logs.pending ≡ pending events

-- Whatever list of events the logs stood for before, they now stand for that list with this event added.
abbrev pub AddsEvent : AllLogs → AllLogs → Event → Type 0
AddsEvent old new event = (count : ℕ) (es : List Event) → LogsStandFor count old es → LogsStandFor count new (event ∷ es)
