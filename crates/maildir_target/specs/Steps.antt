-- The steps of a run: what is asked, what each answer does, and what comes next.
-- The delivery is that of the maildir manual page: stat, create, write, sync and link; then the name under `tmp/` is removed.
use Rattle.std.specs.Prelude.{ℕ, ◌+◌, Bool, true, false, List, [], ◌∷◌, ◌++◌, Option, Some, None, is_some}
use Rattle.sim_device.specs.FileEffects.{Effect, Create, Append, Sync, Link, Unlink, SyncDir, Live, leads}
use Rattle.action_eval.specs.Answers.{Reply, Go, Return, Halt}
use Rattle.target_trait.specs.Play.{Move, move_by}
use Rattle.target_trait.specs.Machine.{Machine, asks_by}
use Rattle.scenario_values.specs.chunked.Chunks.{half}
use Rattle.maildir_target.specs.declared.variant.Variant.{Variant}
use Rattle.maildir_target.specs.declared.variant.Variant.TheVariants.{Sound, LinkFirst, IgnoreWrite, AppendTmp, DeliverInNew}
use Rattle.maildir_target.specs.declared.name.Attempt.{Attempt}
use Rattle.maildir_target.specs.declared.name.Attempt.TheVariants.{First, Second}
use Rattle.maildir_target.specs.Words.{written_name, new_name, stat_point, create_point, write_point, sync_point, link_point, unlink_point, sync_dir_point}
use Rattle.maildir_target.specs.Judgement.{judged}

-- The step that is asked for next.
pub data Step : Type 0 where
  -- Looks whether the name to write under is free.
  Looking : Step
  Creating : Step
  -- Writes this chunk. The chunks after it follow.
  Writing : List ℕ → List (List ℕ) → Step
  Syncing : Step
  Linking : Step
  Unlinking : Step
  SyncingDir : Step
  -- Removes the name that was written, after a failure.
  Cleaning : Step
  Over : Step

-- How far the delivery has come.
pub record Tally : Type 0 where
  pub step : Step
  -- The message under way, numbered from 1, with its attempt and its chunks, and the messages after it.
  pub message : ℕ
  pub attempt : Attempt
  pub chunks : List (List ℕ)
  pub rest : List (List (List ℕ))
  -- The numbers of the messages that were acknowledged by now.
  pub acknowledged : List ℕ

-- The tally, and what the device accepted, the newest effect first.
pub record State : Type 0 where
  pub tally : Tally
  pub effects : List Effect

abbrev pub state : Tally → List Effect → State
state t es = record { tally = t; effects = es }

abbrev pub at_step : Tally → Step → Tally
at_step t step = record { step = step; message = t.message; attempt = t.attempt; chunks = t.chunks; rest = t.rest; acknowledged = t.acknowledged }

-- ---- where the variants differ

-- `append_tmp` doesn't ask whether the name is free.
abbrev pub first_step : Variant → Step
first_step Sound = Looking
first_step LinkFirst = Looking
first_step IgnoreWrite = Looking
first_step AppendTmp = Creating
first_step DeliverInNew = Looking

-- `append_tmp` uses the names of the first attempt in both attempts.
abbrev pub named_by : Variant → Attempt → Attempt
named_by Sound attempt = attempt
named_by LinkFirst attempt = attempt
named_by IgnoreWrite attempt = attempt
named_by AppendTmp attempt = First
named_by DeliverInNew attempt = attempt

-- The names of the attempt under way: the one that is written, and the one under `new/`.
abbrev pub written_of : Variant → Tally → ℕ
written_of v t = written_name v t.message (named_by v t.attempt)

abbrev pub new_of : Variant → Tally → ℕ
new_of v t = new_name t.message (named_by v t.attempt)

abbrev pub is_there : ℕ → List Effect → Bool
is_there name es = is_some (leads es Live name)

-- `append_tmp` keeps a file that already exists.
abbrev pub create_unless : Bool → ℕ → List Effect → List Effect
create_unless false name es = Create name ∷ es
create_unless true name es = es

abbrev pub created_by : Variant → ℕ → List Effect → List Effect
created_by Sound name es = Create name ∷ es
created_by LinkFirst name es = Create name ∷ es
created_by IgnoreWrite name es = Create name ∷ es
created_by AppendTmp name es = create_unless (is_there name es) name es
created_by DeliverInNew name es = Create name ∷ es

abbrev pub write_step : List (List ℕ) → Step
write_step [] = Syncing
write_step (c ∷ cs) = Writing c cs

-- `link_first` links before it writes.
abbrev pub after_create : Variant → List (List ℕ) → Step
after_create Sound chunks = write_step chunks
after_create LinkFirst chunks = Linking
after_create IgnoreWrite chunks = write_step chunks
after_create AppendTmp chunks = write_step chunks
after_create DeliverInNew chunks = write_step chunks

abbrev pub after_link : Variant → List (List ℕ) → Step
after_link Sound chunks = Unlinking
after_link LinkFirst chunks = write_step chunks
after_link IgnoreWrite chunks = Unlinking
after_link AppendTmp chunks = Unlinking
after_link DeliverInNew chunks = SyncingDir

-- `deliver_in_new` has nothing to link, and no other name to remove.
abbrev pub after_sync : Variant → Step
after_sync Sound = Linking
after_sync LinkFirst = Unlinking
after_sync IgnoreWrite = Linking
after_sync AppendTmp = Linking
after_sync DeliverInNew = SyncingDir

-- After half a chunk `ignore_write` goes on as if it had written the whole chunk.
abbrev pub after_half : Variant → List (List ℕ) → Step
after_half Sound cs = Cleaning
after_half LinkFirst cs = Cleaning
after_half IgnoreWrite cs = write_step cs
after_half AppendTmp cs = Cleaning
after_half DeliverInNew cs = Cleaning

-- ---- between messages and attempts

-- Begins the next message with its first attempt. If there is no further message, the run is over.
abbrev pub begun_of : Variant → Tally → List (List (List ℕ)) → Tally
begun_of v t [] = at_step t Over
begun_of v t (chunks ∷ more) = record {
  step = first_step v;
  message = t.message + 1;
  attempt = First;
  chunks = chunks;
  rest = more;
  acknowledged = t.acknowledged;
}

abbrev pub begun : Variant → Tally → Tally
begun v t = begun_of v t t.rest

abbrev pub acknowledged : Tally → Tally
acknowledged t = record {
  step = t.step;
  message = t.message;
  attempt = t.attempt;
  chunks = t.chunks;
  rest = t.rest;
  acknowledged = t.acknowledged ++ t.message ∷ [];
}

-- The attempt fails. After the first attempt there is a second one, and after the second the message is given up.
abbrev pub failed_of : Variant → Tally → Attempt → Tally
failed_of v t First = record { step = first_step v; message = t.message; attempt = Second; chunks = t.chunks; rest = t.rest; acknowledged = t.acknowledged }
failed_of v t Second = begun v t

abbrev pub failed : Variant → Tally → Tally
failed v t = failed_of v t t.attempt

-- What follows if the name can't be removed: it stays. With `deliver_in_new` it is under `new/`, so nothing more
-- is asked, lest a later sync of the directory make it last.
abbrev pub not_cleaned : Variant → Tally → Tally
not_cleaned Sound t = failed Sound t
not_cleaned LinkFirst t = failed LinkFirst t
not_cleaned IgnoreWrite t = failed IgnoreWrite t
not_cleaned AppendTmp t = failed AppendTmp t
not_cleaned DeliverInNew t = at_step t Over

-- ---- the table of steps

-- If the name exists already, it isn't used, and the attempt fails.
abbrev pub looked : Bool → Variant → Tally → Tally
looked true v t = failed v t
looked false v t = at_step t Creating

-- If the name under `new/` exists already, it stays as it is, and the link fails.
abbrev pub linked : Bool → Variant → Tally → List Effect → State
linked true v t es = state (at_step t Cleaning) es
linked false v t es = state (at_step t (after_link v t.chunks)) (Link (written_of v t) (new_of v t) ∷ es)

-- What a step does if it is answered with `Go`.
abbrev pub on_go : Variant → Tally → List Effect → Step → State
on_go v t es Looking = state (looked (is_there (written_of v t) es) v t) es
on_go v t es Creating = state (at_step t (after_create v t.chunks)) (created_by v (written_of v t) es)
on_go v t es (Writing c cs) = state (at_step t (write_step cs)) (Append (written_of v t) c ∷ es)
on_go v t es Syncing = state (at_step t (after_sync v)) (Sync (written_of v t) ∷ es)
on_go v t es Linking = linked (is_there (new_of v t) es) v t es
on_go v t es Unlinking = state (at_step t SyncingDir) (Unlink (written_of v t) ∷ es)
on_go v t es SyncingDir = state (begun v (acknowledged t)) (SyncDir ∷ es)
on_go v t es Cleaning = state (failed v t) (Unlink (written_of v t) ∷ es)
on_go v t es Over = state (at_step t Over) es

-- What a step does if it is answered with `Return`, so that it fails.
abbrev pub on_return : Variant → Tally → List Effect → Step → State
on_return v t es Looking = state (failed v t) es
on_return v t es Creating = state (failed v t) es
on_return v t es (Writing c cs) = state (at_step t (after_half v cs)) (Append (written_of v t) (half c) ∷ es)
on_return v t es Syncing = state (at_step t Cleaning) es
on_return v t es Linking = state (at_step t Cleaning) es
on_return v t es Unlinking = state (at_step t SyncingDir) es
on_return v t es SyncingDir = state (begun v t) es
on_return v t es Cleaning = state (not_cleaned v t) es
on_return v t es Over = state (at_step t Over) es

-- The state after an answer. After `Halt` nothing more is done or asked.
abbrev pub stepped : Variant → State → Reply → State
stepped v s Go = on_go v s.tally s.effects s.tally.step
stepped v s (Return text) = on_return v s.tally s.effects s.tally.step
stepped v s Halt = state (at_step s.tally Over) s.effects

-- ---- a whole run

abbrev pub before_all : List (List (List ℕ)) → Tally
before_all messages = record { step = Over; message = 0; attempt = First; chunks = []; rest = messages; acknowledged = [] }

-- The first state of a run. The device was cleared before it.
abbrev pub start_of : Variant → List (List (List ℕ)) → State
start_of v messages = state (begun v (before_all messages)) []

-- The point that a step asks.
abbrev pub point_at : Step → Option ℕ
point_at Looking = Some stat_point
point_at Creating = Some create_point
point_at (Writing c cs) = Some write_point
point_at Syncing = Some sync_point
point_at Linking = Some link_point
point_at Unlinking = Some unlink_point
point_at SyncingDir = Some sync_dir_point
point_at Cleaning = Some unlink_point
point_at Over = None

abbrev pub move_of : List (List (List ℕ)) → State → Move
move_of messages s = move_by (judged messages s.tally.acknowledged s.effects) (point_at s.tally.step)

-- The delivery of messages, step by step.
abbrev pub machine : Variant → List (List (List ℕ)) → Machine State
machine v messages = record { first = start_of v messages; step = stepped v; move = move_of messages }

-- What is asked after these answers.
abbrev pub asks_of : Variant → List (List (List ℕ)) → List Reply → Move
asks_of v messages = asks_by (machine v messages)
