use Rattle.std.specs.Prelude.{◌≡◌, ◌+◌, ◌≤◌, map, length, vec_len}
use Rattle.std.specs.Vec.{vec_capacity}
use Rattle.ddmin_parallel.specs.CoreEvents as core
use Rattle.ddmin_parallel.specs.Logs.{Log, state_of}
use Rattle.ddmin_parallel.specs.declared.board.Event.{Event}
use Rattle.ddmin_parallel.specs.declared.board.Event.TheVariants.{Take, Put, GiveBack, Recall}
use Rattle.ddmin_parallel.specs.declared.board.Board.TheInside.{Inside}

abbrev pub event_of : Event → core.Event
event_of (Take s) = core.Take s
event_of (Put s fails) = core.Put s fails
event_of (GiveBack s) = core.GiveBack s
event_of Recall = core.Recall

abbrev pub log_of : Inside → Log
log_of b = record { faults = b.core.faults; events = map event_of b.events.items }

-- The core is in the state that the events lead to, and each request that is out has room reserved for the event that ends it.
pub record IsBoard (b : Inside) : Type 0 where
  pub stands : b.core ≡ state_of (log_of b)
  pub room : vec_len b.events + length b.core.out ≤ vec_capacity b.events
