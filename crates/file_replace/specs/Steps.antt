-- The protocol of atomic replacement as a table: the steps, the point that each of them asks, and what each answer does and leads to.
use Rattle.std.specs.Prelude.{ℕ, Bool, true, false, List, [], ◌∷◌, Option, Some, None, is_some}
use Rattle.sim_device.specs.FileEffects.{Effect, Create, Append, Sync, Rename, Unlink, SyncDir, PowerCut, Live, leads}
use Rattle.action_eval.specs.Answers.{Reply, Go, Return, Halt}
use Rattle.target_trait.specs.Play.{Move, move_by}
use Rattle.target_trait.specs.Machine.{Machine, after, asks_by}
use Rattle.scenario_values.specs.chunked.Chunks.{joined, half}
use Rattle.file_replace.specs.declared.variant.Variant.{Variant}
use Rattle.file_replace.specs.declared.variant.Variant.TheVariants.{Sound, LateSync, IgnoreSync, RetryWrite, RenameFirst, InPlace}
use Rattle.file_replace.specs.Words.{target, tmp, written_name, clear_point, create_point, write_point, sync_point, rename_point, sync_dir_point, unlink_point}
use Rattle.file_replace.specs.Work.{Work}
use Rattle.file_replace.specs.Judgement.{Past, nothing_begun, with_begun, with_acknowledged, judged}

-- The step that is asked for next, with the chunks that are left.
pub data Step : Type 0 where
  -- Removes the name to write under: `tmp`, if a failed replacement left it, or `target` with `in_place`.
  Clearing : List (List ℕ) → Step
  Creating : List (List ℕ) → Step
  Writing : List ℕ → List (List ℕ) → Step
  WritingAgain : List ℕ → List (List ℕ) → Step
  Syncing : Step
  Renaming : Step
  -- Syncs the file that was renamed, before the directory is synced.
  SyncingRenamed : Step
  SyncingDir : Step
  -- Syncs the file late, when it is already named `target`.
  SyncingLate : Step
  -- Removes `tmp` after a failure.
  Cleaning : Step
  Over : Step

-- How far the replacements have come.
pub record Tally : Type 0 where
  pub step : Step
  -- The whole contents of the replacement under way, and the replacements after it.
  pub whole : List ℕ
  pub rest : List (List (List ℕ))
  pub past : Past

-- The tally, and what the device accepted, the newest effect first.
pub record State : Type 0 where
  pub tally : Tally
  pub effects : List Effect

abbrev pub state : Tally → List Effect → State
state t es = record { tally = t; effects = es }

abbrev pub at_step : Tally → Step → Tally
at_step t step = record { step = step; whole = t.whole; rest = t.rest; past = t.past }

-- ---- between replacements

abbrev pub is_there : Variant → List Effect → Bool
is_there v es = is_some (leads es Live (written_name v))

-- The name is removed first only if it exists.
abbrev pub first_step : Bool → List (List ℕ) → Step
first_step false chunks = Creating chunks
first_step true chunks = Clearing chunks

-- Begins the next replacement. If there is none, the run is over.
abbrev pub begun_of : Bool → Tally → List (List (List ℕ)) → Tally
begun_of there t [] = record { step = Over; whole = t.whole; rest = []; past = t.past }
begun_of there t (chunks ∷ more) = record { step = first_step there chunks; whole = joined chunks; rest = more; past = with_begun (joined chunks) t.past }

abbrev pub begun : Bool → Tally → Tally
begun there t = begun_of there t t.rest

abbrev pub acknowledged : Tally → Tally
acknowledged t = record { step = t.step; whole = t.whole; rest = t.rest; past = with_acknowledged t.whole t.past }

-- The replacement under way fails, and the next one is begun.
abbrev pub failed : Variant → Tally → List Effect → State
failed v t es = state (begun (is_there v es) t) es

-- The replacement under way is acknowledged, and the next one is begun.
abbrev pub done : Variant → Tally → List Effect → State
done v t es = state (begun (is_there v es) (acknowledged t)) es

-- ---- where the variants differ

-- `late_sync` and `rename_first` sync the file only after the rename.
abbrev pub after_writes : Variant → Step
after_writes Sound = Syncing
after_writes LateSync = Renaming
after_writes IgnoreSync = Syncing
after_writes RetryWrite = Syncing
after_writes RenameFirst = Renaming
after_writes InPlace = Syncing

abbrev pub write_step : Variant → List (List ℕ) → Step
write_step v [] = after_writes v
write_step v (c ∷ cs) = Writing c cs

-- `in_place` has nothing to rename.
abbrev pub after_sync : Variant → Step
after_sync Sound = Renaming
after_sync LateSync = Renaming
after_sync IgnoreSync = Renaming
after_sync RetryWrite = Renaming
after_sync RenameFirst = Renaming
after_sync InPlace = SyncingDir

-- `rename_first` syncs the file after the rename.
abbrev pub after_rename : Variant → Step
after_rename Sound = SyncingDir
after_rename LateSync = SyncingDir
after_rename IgnoreSync = SyncingDir
after_rename RetryWrite = SyncingDir
after_rename RenameFirst = SyncingRenamed
after_rename InPlace = SyncingDir

abbrev pub after_sync_dir : Variant → Tally → List Effect → State
after_sync_dir Sound t es = done Sound t es
after_sync_dir LateSync t es = state (at_step t SyncingLate) es
after_sync_dir IgnoreSync t es = done IgnoreSync t es
after_sync_dir RetryWrite t es = done RetryWrite t es
after_sync_dir RenameFirst t es = done RenameFirst t es
after_sync_dir InPlace t es = done InPlace t es

-- What follows if the file can't be completed: it is removed. `in_place` leaves it as it is.
abbrev pub given_up : Variant → Tally → List Effect → State
given_up Sound t es = state (at_step t Cleaning) es
given_up LateSync t es = state (at_step t Cleaning) es
given_up IgnoreSync t es = state (at_step t Cleaning) es
given_up RetryWrite t es = state (at_step t Cleaning) es
given_up RenameFirst t es = state (at_step t Cleaning) es
given_up InPlace t es = failed InPlace t es

-- `retry_write` writes the whole chunk again after half of it was written.
abbrev pub after_half : Variant → Tally → List Effect → List ℕ → List (List ℕ) → State
after_half Sound t es c cs = given_up Sound t es
after_half LateSync t es c cs = given_up LateSync t es
after_half IgnoreSync t es c cs = given_up IgnoreSync t es
after_half RetryWrite t es c cs = state (at_step t (WritingAgain c cs)) es
after_half RenameFirst t es c cs = given_up RenameFirst t es
after_half InPlace t es c cs = given_up InPlace t es

-- `ignore_sync` goes on as if the sync had succeeded.
abbrev pub after_no_sync : Variant → Tally → List Effect → State
after_no_sync Sound t es = given_up Sound t es
after_no_sync LateSync t es = given_up LateSync t es
after_no_sync IgnoreSync t es = state (at_step t Renaming) es
after_no_sync RetryWrite t es = given_up RetryWrite t es
after_no_sync RenameFirst t es = given_up RenameFirst t es
after_no_sync InPlace t es = given_up InPlace t es

-- ---- the table of steps

-- The point that a step asks.
abbrev pub point_at : Step → Option ℕ
point_at (Clearing chunks) = Some clear_point
point_at (Creating chunks) = Some create_point
point_at (Writing c cs) = Some write_point
point_at (WritingAgain c cs) = Some write_point
point_at Syncing = Some sync_point
point_at Renaming = Some rename_point
point_at SyncingRenamed = Some sync_point
point_at SyncingDir = Some sync_dir_point
point_at SyncingLate = Some sync_point
point_at Cleaning = Some unlink_point
point_at Over = None

-- What a step does if it is answered with `Go`.
abbrev pub on_go : Variant → Tally → List Effect → Step → State
on_go v t es (Clearing chunks) = state (at_step t (Creating chunks)) (Unlink (written_name v) ∷ es)
on_go v t es (Creating chunks) = state (at_step t (write_step v chunks)) (Create (written_name v) ∷ es)
on_go v t es (Writing c cs) = state (at_step t (write_step v cs)) (Append (written_name v) c ∷ es)
on_go v t es (WritingAgain c cs) = state (at_step t (write_step v cs)) (Append (written_name v) c ∷ es)
on_go v t es Syncing = state (at_step t (after_sync v)) (Sync (written_name v) ∷ es)
on_go v t es Renaming = state (at_step t (after_rename v)) (Rename tmp target ∷ es)
on_go v t es SyncingRenamed = state (at_step t SyncingDir) (Sync target ∷ es)
on_go v t es SyncingDir = after_sync_dir v t (SyncDir ∷ es)
on_go v t es SyncingLate = done v t (Sync target ∷ es)
on_go v t es Cleaning = failed v t (Unlink tmp ∷ es)
on_go v t es Over = state (at_step t Over) es

-- What a step does if it is answered with `Return`, so that it fails.
abbrev pub on_return : Variant → Tally → List Effect → Step → State
on_return v t es (Clearing chunks) = failed v t es
on_return v t es (Creating chunks) = failed v t es
on_return v t es (Writing c cs) = after_half v t (Append (written_name v) (half c) ∷ es) c cs
on_return v t es (WritingAgain c cs) = given_up v t (Append (written_name v) (half c) ∷ es)
on_return v t es Syncing = after_no_sync v t es
on_return v t es Renaming = state (at_step t Cleaning) es
on_return v t es SyncingRenamed = failed v t es
on_return v t es SyncingDir = failed v t es
on_return v t es SyncingLate = failed v t es
on_return v t es Cleaning = failed v t es
on_return v t es Over = state (at_step t Over) es

-- The state after an answer. After `Halt` nothing more is done or asked.
abbrev pub stepped : Variant → State → Reply → State
stepped v s Go = on_go v s.tally s.effects s.tally.step
stepped v s (Return text) = on_return v s.tally s.effects s.tally.step
stepped v s Halt = state (at_step s.tally Over) s.effects

-- ---- a whole run

-- Before a run `target` has the old contents, and both the name and the contents last.
abbrev pub prepared : List ℕ → List Effect
prepared old = SyncDir ∷ Sync target ∷ Append target old ∷ Create target ∷ []

abbrev pub before_all : Work → Tally
before_all w = record { step = Over; whole = w.old; rest = w.replacements; past = nothing_begun w.old }

abbrev pub start_of : Variant → Work → State
start_of v w = state (begun (is_there v (prepared w.old)) (before_all w)) (prepared w.old)

abbrev pub move_of : State → Move
move_of s = move_by (judged s.tally.past s.effects) (point_at s.tally.step)

-- The protocol: the first state, the state that an answer leads to, and what a state asks.
abbrev pub machine : Variant → Work → Machine State
machine v w = record { first = start_of v w; step = stepped v; move = move_of }

-- What is asked after a list of answers.
abbrev pub asks_of : Variant → Work → List Reply → Move
asks_of v w = asks_by (machine v w)

-- What the device accepted in a run with these answers, and the power cut at its end.
abbrev pub effects_of : Variant → Work → List Reply → List Effect
effects_of v w answers = PowerCut [] ∷ (after (machine v w) answers).effects
