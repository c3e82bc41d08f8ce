use Rattle.std.proofs.Common.{sym, ◌∙◌, arith}
use Rattle.ddmin_parallel.specs.Logs.{is_event_backed}
use Rattle.ddmin_parallel.specs.InsideBoard.{event_of}
use Rattle.ddmin_parallel.proofs.Anys.{all_not, all_so}
use Rattle.ddmin_parallel.proofs.board.are_backed.Goals as goal

pub returns-then-not-is_one_backed : goal.returns-then-not-is_one_backed
returns-then-not-is_one_backed c =
    sym (all_not (is_event_backed c.args.pairs.now) event_of c.args.events.now c.loop-event.event-index c.event-item.result (omega arith) c.event-item.is
    (sym c.is_one_backed.ensures ∙ c.if-not-is_one_backed.true))

pub returns : goal.returns
returns c = sym (all_so (is_event_backed c.args.pairs.now) event_of c.args.events.now (λ j d lt. c.loop-event.invariant j d (omega arith)))
