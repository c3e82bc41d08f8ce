use Rattle.std.proofs.Common.{refl, sym, ◌∙◌, subst, arith}
use Rattle.ddmin_parallel.specs.CoreEvents as core
use Rattle.ddmin_parallel.specs.InsideBoard.{IsBoard}
use Rattle.ddmin_parallel.specs.declared.board.Event.TheVariants.{GiveBack}
use Rattle.ddmin_parallel.proofs.BoardLemmas.{board_push, out_given_back, given_back_same}
use Rattle.ddmin_parallel.proofs.board.Board.give_back.Goals as goal

pub invariant_of-self : goal.invariant_of-self
invariant_of-self c =
    let s = c.into_packed-set.result in
    let fewer = out_given_back c.self.inside.core c.end_request.new.self s (sym c.end_request.ensures.was ∙ c.if-end_request.true) c.end_request.ensures.event in
    record {
      stands = board_push c.self.inside.core c.end_request.new.self c.self.inside.events.items c.note.new.events.items (core.GiveBack s)
          (GiveBack s)
          c.self.invariant.stands c.end_request.ensures.event c.note.ensures.items refl;
      room = omega (arith, fewer, c.self.invariant.room, c.note.ensures.len, c.note.ensures.capacity);
    }

pub invariant_of-self-else-end_request : goal.invariant_of-self-else-end_request
invariant_of-self-else-end_request c =
    let same = c.end_request.ensures.event ∙ given_back_same c.self.inside.core c.into_packed-set.result (sym c.end_request.ensures.was ∙ c.if-end_request.false) in
    subst (λ x. IsBoard (record { core = x; events = c.self.inside.events })) (sym same) c.self.invariant
