use Rattle.std.proofs.Common.{arith}
use Rattle.ddmin_parallel.specs.Logs.{is_event_backed}
use Rattle.ddmin_parallel.specs.InsideBoard.{event_of}
use Rattle.ddmin_parallel.proofs.Anys.{all_so}
use Rattle.ddmin_parallel.proofs.merge.are_in_turn.Goals as goal

pub returns : goal.returns
returns c _ = all_so (is_event_backed c.args.pairs.now) event_of c.args.events.now (λ j d lt. c.loop-event.invariant j d (omega arith))
