-- How the judge keeps sets of transactions: a word holds one bit for each of 64 transactions in a row.
use Rattle.std.specs.Prelude.{◌≡◌, ℕ, ◌<◌, ◌+◌, ◌==◌, Bool, true, false, List, slice_index}
use Rattle.std.specs.Int.{bit_at}
use Rattle.sim_device.specs.LogEffects.{LogEffect, Log, LogStandsFor}
use Rattle.commit_target.specs.declared.judge.Ends.{Ends}
use Rattle.commit_target.specs.declared.records.Record.{Record}
use Rattle.commit_target.specs.declared.records.Kind.{Kind}
use Rattle.commit_target.specs.declared.records.Kind.TheVariants.{Prepare, Commit, Abort, End}
use Rattle.commit_target.specs.Judgement.{has, some_ends, is_committed, was_told}

-- Whether the transaction at this place is in a set.
abbrev pub among : ℕ → ℕ → Bool
among set place = bit_at set place == 1

-- The place of a kind's set.
abbrev pub place_of : Kind → ℕ
place_of Prepare = 0
place_of Commit = 1
place_of Abort = 2
place_of End = 3

-- The sets of a log, one for each kind: which of the 64 transactions from `first` on have a record of this kind in the log.
abbrev pub AreMarks : List ℕ → List Record → ℕ → Type 0
AreMarks sets log first = (kind : Kind) (k : ℕ) → k < 64 → among (slice_index sets (place_of kind)) k ≡ has log (first + k) kind

-- How 64 transactions in a row end: which ones a participant commits, which ones a participant aborts, and of which the client was told.
pub record EndsOf (participants : ℕ) (told : List ℕ) (known : List Record) (own : ℕ → List Record) (ends : Ends) : Type 0 where
  pub committed : (k : ℕ) → k < 64 → among ends.committed k ≡ some_ends (λ n. is_committed known (own n) (ends.first + k)) true participants
  pub aborted : (k : ℕ) → k < 64 → among ends.aborted k ≡ some_ends (λ n. is_committed known (own n) (ends.first + k)) false participants
  pub told_so : (k : ℕ) → k < 64 → among ends.told k ≡ was_told told (ends.first + k)

-- A log that stands for some effects, and its sets, which cover the first 64 transactions.
pub record Marked (log : Log Record) (sets : List ℕ) : Type 0 where
  pub effects : List (LogEffect Record)
  pub stands : LogStandsFor log effects
  pub marks : AreMarks sets log.live 0
