-- The predicates of `Cursors` for a core's progress.
use Rattle.std.specs.Prelude.{◌≡◌, ℕ, Bool, true, List, Option, None}
use Rattle.std.specs.FinMap.{get, insert}
use Rattle.ddmin_parallel.specs.CoreEvents.{Position, furthest, step, without}
use Rattle.ddmin_parallel.specs.inside.Cursors.{is_among, IsOpened, IsReached, IsScan, IsShutBelow}
use Rattle.ddmin_parallel.specs.inside.Stages.{position_of}
use Rattle.ddmin_parallel.specs.declared.open.Scan.{Scan}
use Rattle.ddmin_parallel.specs.declared.reducer_core.Progress.{Progress}
use Rattle.ddmin_parallel.specs.declared.stage.Cursor.{Cursor}

-- The known answers lead no further than the stage.
abbrev pub IsStuck : Progress → Type 0
IsStuck p = step (get p.known) (position_of p.stage) ≡ None

-- No candidate of the position's round before this place is open.
abbrev pub HasShut : Progress → Position → ℕ → Type 0
HasShut p position place = IsShutBelow (get p.known) (is_among p.out.items) position place

-- What a search for an open candidate of the position's round found.
abbrev pub Finds : Progress → Position → Scan → Type 0
Finds p position scan = IsScan (get p.known) (is_among p.out.items) position scan

abbrev pub HasReached : Progress → Cursor → Type 0
HasReached p cursor = IsReached (get p.known) (is_among p.out.items) (position_of p.stage) cursor

-- The request that comes next, if there is one, and the cursor for the one after it.
abbrev pub Opens : Progress → Bool → Option (List ℕ) × Cursor → Type 0
Opens p ahead r = IsOpened (get p.known) p.out.items (position_of p.stage) ahead r.0 r.1

-- What putting an answer changes: what is known, which sets are out, and the position.
pub record IsSettled (p : Progress) (s : List ℕ) (fails : Bool) (p' : Progress) : Type 0 where
  pub was_out : is_among p.out.items s ≡ true
  pub known_is : p'.known ≡ insert p.known s fails
  pub out_is : p'.out.items ≡ without s p.out.items
  pub position_is : position_of p'.stage ≡ furthest (get (insert p.known s fails)) (position_of p.stage)
