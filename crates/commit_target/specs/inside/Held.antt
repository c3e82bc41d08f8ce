-- The records that are in the logs, and how the pending ones are noted.
use Rattle.std.specs.Prelude.{◌≡◌, ℕ, zero, suc, ◌+◌, ◌<◌, ◌≤◌, true, List, [], ◌∷◌, ◌++◌, length}
use Rattle.commit_target.specs.declared.marked.Manner.{Manner}
use Rattle.commit_target.specs.declared.marked.Manner.TheVariants.{Append, Force}
use Rattle.commit_target.specs.declared.records.Record.{Record}
use Rattle.commit_target.specs.declared.records.PendingRecord.{PendingRecord}
use Rattle.commit_target.specs.declared.records.Party.TheVariants.{Participant}
use Rattle.commit_target.specs.Writes.{Event, AllLogs, LogsStandFor, log_at, pending, without}
use Rattle.sim_device.specs.LogEffects.{Log}

-- The logs of the coordinator and of this many participants hold these records.
pub record Holds (count : ℕ) (logs : AllLogs) (known : List Record) (own : ℕ → List Record) : Type 0 where
  pub enough : count ≤ length logs.participants
  pub coordinator : logs.coordinator.live ≡ known
  pub participants : (n : ℕ) → n < count → (log_at logs.participants n).live ≡ own n

-- These logs are what the events give, whatever is noted of pending records.
abbrev pub StandFor : ℕ → Log Record → List (Log Record) → List Event → Type 0
StandFor count coordinator participants es =
    LogsStandFor count (record { coordinator = coordinator; participants = participants; notes = true; pending = pending es }) es

-- The pending records after this one was added in this manner.
abbrev pub noted : Manner → PendingRecord → List PendingRecord → List PendingRecord
noted Append p order = order ++ p ∷ []
noted Force p order = without p.party order

-- The pending records after the same record was added at each of n participants in a row, from participant i on.
abbrev pub noted_each : Manner → Record → ℕ → ℕ → List PendingRecord → List PendingRecord
noted_each manner r i zero order = order
noted_each manner r i (suc n) order = noted_each manner r (i + 1) n (noted manner (record { party = Participant i; entry = r }) order)
