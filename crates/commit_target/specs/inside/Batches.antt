-- Many log writes at once: writes of several participants in a row, and their votes.
use Rattle.std.specs.Prelude.{◌≡◌, ℕ, zero, suc, ◌+◌, ◌-◌, ◌<◌, ◌≤◌, List, [], ◌∷◌, ◌++◌, length, slice_index_or}
use Rattle.sim_device.specs.LogEffects.{LogEffect, Log, AddsLogEffect}
use Rattle.sim_device.specs.LogEffects as effect
use Rattle.commit_target.specs.declared.marked.Manner.{Manner}
use Rattle.commit_target.specs.declared.marked.Manner.TheVariants as manner
use Rattle.commit_target.specs.declared.records.Record.{Record}
use Rattle.commit_target.specs.declared.records.Kind.TheVariants as kind
use Rattle.commit_target.specs.declared.records.Party.{Party}
use Rattle.commit_target.specs.declared.records.Party.TheVariants.{Participant}
use Rattle.commit_target.specs.declared.records.Write.{Write}
use Rattle.commit_target.specs.declared.records.Write.TheVariants.{Append, Force}
use Rattle.commit_target.specs.declared.variant.Variant.{Variant}
use Rattle.commit_target.specs.Writes.{Event, Written, AllLogs, LogsStandFor, log_at}
use Rattle.commit_target.specs.Steps.{Tally, with_yes, entry, prepare_write}

-- What adding a record in this manner does to a log, and the write with which a party adds it.
abbrev pub effect_of : Manner → Record → LogEffect Record
effect_of manner.Append r = effect.Append r
effect_of manner.Force r = effect.Force r

abbrev pub write_of : Manner → Party → Record → Write
write_of manner.Append party r = Append party r
write_of manner.Force party r = Force party r

-- The events after n of these writes in a row, the first of them with number i.
abbrev pub all_written : (ℕ → Write) → ℕ → ℕ → List Event → List Event
all_written write i zero es = es
all_written write i (suc n) es = all_written write (i + 1) n (Written (write i) ∷ es)

-- Whatever list of events the logs stood for before, they now stand for that list with these n writes added.
abbrev pub AddsAll : AllLogs → AllLogs → (ℕ → Write) → ℕ → ℕ → Type 0
AddsAll old new write i n = (count : ℕ) (es : List Event) → LogsStandFor count old es → LogsStandFor count new (all_written write i n es)

-- Some of these writes are added, and `left` of them, from number i on, are still to come.
pub record Adding (count : ℕ) (logs : AllLogs) (write : ℕ → Write) (i left : ℕ) (all : List Event) : Type 0 where
  pub events : List Event
  pub written : LogsStandFor count logs events
  pub same : all_written write i left events ≡ all

abbrev pub AddsUpTo : AllLogs → AllLogs → (ℕ → Write) → ℕ → ℕ → ℕ → Type 0
AddsUpTo old new write i n j = (count : ℕ) (es : List Event) → LogsStandFor count old es → Adding count new write j (i + n - j) (all_written write i n es)

-- What an abort makes one participant write, given its place among the participants whose yes arrived.
abbrev pub abort_write : Tally → ℕ → Write
abort_write t place = Append (Participant (slice_index_or t.yes place 0)) (entry t kind.Abort)

-- What each participant that wishes yes writes.
abbrev pub prepares : Variant → Tally → ℕ → Write
prepares v t = λ i. prepare_write v t i

-- The tally after the yes of each of n participants in a row arrived, from participant i on.
abbrev pub with_all_yes : Tally → ℕ → ℕ → Tally
with_all_yes t i zero = t
with_all_yes t i (suc n) = with_all_yes (with_yes t i) (i + 1) n

-- Each log from `first` to before `end` has this effect added, and the other logs are unchanged.
pub record AddsRow (old new : List (Log Record)) (effect : LogEffect Record) (first end : ℕ) : Type 0 where
  pub same : length new ≡ length old
  pub written : (n : ℕ) → first ≤ n → n < end → AddsLogEffect (log_at old n) (log_at new n) effect
  pub below : (n : ℕ) → n < first → log_at new n ≡ log_at old n
  pub above : (n : ℕ) → first ≤ n → end ≤ n → log_at new n ≡ log_at old n

-- The numbers of the first n participants.
abbrev pub first_ones : ℕ → List ℕ
first_ones zero = []
first_ones (suc n) = first_ones n ++ n ∷ []
