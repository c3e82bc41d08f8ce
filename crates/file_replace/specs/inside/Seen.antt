-- What the values in the code say of a run.
use Rattle.std.specs.Prelude.{◌≡◌, ℕ, ◌+◌, List, ◌∷◌, map, take, drop}
use Rattle.sim_device.specs.FileEffects.{Effect}
use Rattle.action_eval.specs.Answers.{Run}
use Rattle.target_trait.specs.Play.{IsRunning}
use Rattle.target_trait.specs.Machine.{Reached}
use Rattle.scenario_values.specs.chunked.Chunks.{joined}
use Rattle.file_replace.specs.declared.variant.Variant.{Variant}
use Rattle.file_replace.specs.declared.stage.Stage.{Stage}
use Rattle.file_replace.specs.declared.stage.Stage.TheVariants as stage
use Rattle.file_replace.specs.Work.{Work}
use Rattle.file_replace.specs.Judgement.{Past}
use Rattle.file_replace.specs.Steps.{Step, Clearing, Creating, Writing, WritingAgain, Syncing, Renaming, SyncingRenamed, SyncingDir, SyncingLate, Cleaning, Over}
use Rattle.file_replace.specs.Steps.{Tally, State, state, machine, point_at}
use Rattle.file_replace.specs.inside.Left.{left}

abbrev pub step_of : Stage → Step
step_of (stage.Clearing rest) = Clearing (left rest)
step_of (stage.Creating rest) = Creating (left rest)
step_of (stage.Writing chunk rest) = Writing chunk.now (left rest)
step_of (stage.WritingAgain chunk rest) = WritingAgain chunk.now (left rest)
step_of stage.Syncing = Syncing
step_of stage.Renaming = Renaming
step_of stage.SyncingRenamed = SyncingRenamed
step_of stage.SyncingDir = SyncingDir
step_of stage.SyncingLate = SyncingLate
step_of stage.Cleaning = Cleaning
step_of stage.Over = Over

-- The old contents, followed by those of each replacement.
abbrev pub all_contents : List ℕ → List (List (List ℕ)) → List (List ℕ)
all_contents old replacements = old ∷ map joined replacements

-- The contents with the numbers `from` to `to`, in order.
abbrev pub contents_between : ℕ → ℕ → List (List ℕ) → List (List ℕ)
contents_between from to contents = drop from (take (to + 1) contents)

-- The past when this many replacements were begun, and the contents with number `acknowledged` were the last that were acknowledged.
abbrev pub past_of : List (List ℕ) → ℕ → ℕ → Past
past_of contents acknowledged begun = record { allowed = contents_between acknowledged begun contents; known = contents_between 0 begun contents }

-- The code has come this far.
pub record Shows {D : Type 0} (stands : D → List Effect → Type 0) (s : State) (t : Tally) (d : D) : Type 0 where
  pub tally : t ≡ s.tally
  pub device : stands d s.effects

-- A run has come this far, with a device that holds what the protocol says.
pub record Played {D : Type 0} (stands : D → List Effect → Type 0) (v : Variant) (w : Work) (r : Run) (t : Tally) (d : D) : Type 0 where
  pub effects : List Effect
  pub reached : Reached (machine v w) r (state t effects)
  pub device : stands d effects
  pub running : IsRunning (point_at t.step) r
