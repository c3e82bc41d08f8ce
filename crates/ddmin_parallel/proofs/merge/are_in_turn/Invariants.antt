use Rattle.std.proofs.Common.{◌≡◌, ℕ, ◌<◌, true, get_or}
use Rattle.ddmin_parallel.specs.Logs.{is_event_backed}
use Rattle.ddmin_parallel.specs.InsideBoard.{event_of}
use Rattle.ddmin_parallel.specs.declared.board.Event.{Event}
use Rattle.ddmin_parallel.proofs.merge.are_in_turn.Given as goal

abbrev pub invariant-loop-event : goal.invariant-loop-event
invariant-loop-event l = (j : ℕ) (d : Event) → j < l.event-index → is_event_backed l.pairs (event_of (get_or l.events j d)) ≡ true
