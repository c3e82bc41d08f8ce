-- The journal as a table of its steps. It commits the transactions of the workload one after another: it appends the records of each to one file and
-- syncs the file; then it appends a commit record and syncs again. If a step fails, the journal gives the transaction up and begins the next.
use Rattle.std.specs.Prelude.{ℕ, ◌+◌, nat_lt, if◌then◌else◌, Bool, List, [], ◌∷◌, ◌++◌, Option, Some, None, length}
use Rattle.std.proofs.Common.{arith}
use Rattle.target_trait.specs.declared.judgement.Judgement.{Judgement}
use Rattle.target_trait.specs.Play.{IsWithin, move_by}
use Rattle.target_trait.specs.Protocol.{Table}
use Rattle.target_trait.specs.Cuts.{CutTable}
use Rattle.journal_target.specs.declared.variant.Variant.{Variant}
use Rattle.journal_target.specs.declared.variant.Variant.TheVariants.{Sound, EarlyAck, NoCommitRecord, OneSync}
use Rattle.journal_target.specs.declared.step.Step.{Step}
use Rattle.journal_target.specs.declared.step.Step.TheVariants.{Appending, SyncingRecords, Committing, Syncing, Over}
use Rattle.journal_target.specs.Words.{append_point, append_commit_point, sync_point, commit_mark}
use Rattle.journal_target.specs.Work.{records_of, record_at}
use Rattle.journal_target.specs.Frames.{record_frame, commit_frame, half}
use Rattle.journal_target.specs.File.{File, appended_to, synced_file, left}
use Rattle.journal_target.specs.Judgement.{judged_from}

-- How far a run has come.
pub record Progress : Type 0 where
  -- The step that is asked for next.
  pub step : Step
  -- The place in the workload of the transaction under way, from 0.
  pub index : ℕ
  -- The numbers of the transactions that are acknowledged by now.
  pub acknowledged : List ℕ
  pub file : File

-- Transactions are numbered from 1, since lost bytes read as zeros.
abbrev pub number : Progress → ℕ
number p = p.index + 1

-- ---- what a step may do

abbrev pub at_step : Step → Progress → Progress
at_step step p = record { step = step; index = p.index; acknowledged = p.acknowledged; file = p.file }

abbrev pub appended : List ℕ → Progress → Progress
appended bytes p = record { step = p.step; index = p.index; acknowledged = p.acknowledged; file = appended_to p.file bytes }

abbrev pub synced : Progress → Progress
synced p = record { step = p.step; index = p.index; acknowledged = p.acknowledged; file = synced_file p.file }

abbrev pub acknowledged : Progress → Progress
acknowledged p = record { step = p.step; index = p.index; acknowledged = p.acknowledged ++ number p ∷ []; file = p.file }

-- ---- where the variants differ

-- The step after the last record. The records are synced before the commit record is appended, except that `no_commit_record` has no commit record,
-- and `one_sync` syncs both at once.
abbrev pub last_step : Variant → Step
last_step Sound = SyncingRecords
last_step EarlyAck = SyncingRecords
last_step NoCommitRecord = Syncing
last_step OneSync = Committing

-- `early_ack` acknowledges a transaction when its commit record is appended.
abbrev pub commit_acknowledged : Variant → Progress → Progress
commit_acknowledged Sound p = p
commit_acknowledged EarlyAck p = acknowledged p
commit_acknowledged NoCommitRecord p = p
commit_acknowledged OneSync p = p

-- The other variants acknowledge it after the last sync.
abbrev pub sync_acknowledged : Variant → Progress → Progress
sync_acknowledged Sound p = acknowledged p
sync_acknowledged EarlyAck p = p
sync_acknowledged NoCommitRecord p = acknowledged p
sync_acknowledged OneSync p = acknowledged p

-- ---- between records and transactions

-- The step for the record at this place of `count`, or the one after the last record.
abbrev pub append_step : Variant → ℕ → ℕ → Step
append_step v place count = if nat_lt place count then Appending place else last_step v

-- The transaction at this place begins, if there is one.
abbrev pub begun : Variant → List (List (List ℕ)) → ℕ → Progress → Progress
begun v w n p =
    if nat_lt n (length w)
    then record { step = append_step v 0 (length (records_of w n)); index = n; acknowledged = p.acknowledged; file = p.file }
    else at_step Over p

-- ---- the table of steps

-- Before a run the file exists and is empty.
abbrev pub before_all : Progress
before_all = record { step = Over; index = 0; acknowledged = []; file = record { bytes = []; synced = 0; pending = [] } }

abbrev pub point_at : Step → Option ℕ
point_at (Appending place) = Some append_point
point_at SyncingRecords = Some sync_point
point_at Committing = Some append_commit_point
point_at Syncing = Some sync_point
point_at Over = None

-- What a step does if the answer is to go on.
abbrev pub on_go : Variant → List (List (List ℕ)) → Progress → Step → Progress
on_go v w p (Appending place) =
    at_step (append_step v (place + 1) (length (records_of w p.index))) (appended (record_frame (number p) (record_at w p.index place)) p)
on_go v w p SyncingRecords = at_step Committing (synced p)
on_go v w p Committing = at_step Syncing (commit_acknowledged v (appended (commit_frame (number p)) p))
on_go v w p Syncing = begun v w (p.index + 1) (sync_acknowledged v (synced p))
on_go v w p Over = p

-- What a step does if the answer is that it fails: an append writes half of its frame, and the transaction is given up.
abbrev pub on_fail : Variant → List (List (List ℕ)) → Progress → Step → Progress
on_fail v w p (Appending place) = begun v w (p.index + 1) (appended (half (record_frame (number p) (record_at w p.index place))) p)
on_fail v w p SyncingRecords = begun v w (p.index + 1) p
on_fail v w p Committing = begun v w (p.index + 1) (appended (commit_mark ∷ []) p)
on_fail v w p Syncing = begun v w (p.index + 1) p
on_fail v w p Over = p

-- The power is cut, these pending appends are kept, and what is left is judged.
abbrev pub judged : Variant → List (List (List ℕ)) → Progress → List Bool → Judgement
judged v w p keep = judged_from v p.acknowledged (left p.file keep) 1 w

abbrev pub steps : Variant → List (List (List ℕ)) → Table Progress
steps v w = record {
  first = begun v w 0 before_all;
  point = λ p. point_at p.step;
  go = λ p. on_go v w p p.step;
  fail = λ p text. on_fail v w p p.step;
  judge = λ p. judged v w p [];
}

-- Each append after the last sync is pending.
abbrev pub cuts : Variant → List (List (List ℕ)) → CutTable Progress
cuts v w = record {
  pending = λ p. length p.file.pending;
  judge = judged v w;
}

step_within : (j : Judgement) (step : Step) → IsWithin 3 (move_by j (point_at step))
step_within j (Appending place) = omega arith
step_within j SyncingRecords = omega arith
step_within j Committing = omega arith
step_within j Syncing = omega arith
step_within j Over = tt

-- Each question is about one of the three points.
pub steps-within : (v : Variant) (w : List (List (List ℕ))) (p : Progress) → IsWithin 3 (move_by ((steps v w).judge p) ((steps v w).point p))
steps-within v w p = step_within (judged v w p []) p.step
