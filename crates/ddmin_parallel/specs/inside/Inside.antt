use Rattle.std.specs.Prelude.{◌≡◌, ◌≤◌}
use Rattle.ddmin_parallel.specs.CoreEvents.{State, position}
use Rattle.ddmin_parallel.specs.inside.CoreStates.{AreOpen}
use Rattle.ddmin_parallel.specs.inside.Stages.{position_of}
use Rattle.ddmin_parallel.specs.inside.Searches.{HasReached}
use Rattle.ddmin_parallel.specs.declared.reducer_core.Core.TheInside.{Inside}

abbrev pub state_of : Inside → State
state_of c = record { faults = c.faults; known = c.progress.known; out = c.progress.out.items }

-- The stage is where the known answers lead, no set that is out is known, and the cursor is no further than the answers allow.
pub record IsCore (c : Inside) : Type 0 where
  pub few : c.faults ≤ 4096
  pub stands : position_of c.progress.stage ≡ position (state_of c)
  pub open_sets : AreOpen c.progress.known c.progress.out.items
  pub reached : HasReached c.progress c.progress.cursor
