use Rattle.std.proofs.Common.{refl, arith}
use Rattle.ddmin_parallel.specs.CoreEvents as core
use Rattle.ddmin_parallel.specs.declared.board.Event.TheVariants.{Recall}
use Rattle.ddmin_parallel.proofs.BoardLemmas.{board_push, out_recalled}
use Rattle.ddmin_parallel.proofs.board.Board.recall.Goals as goal

pub invariant_of-self : goal.invariant_of-self
invariant_of-self c =
    let none = out_recalled c.self.inside.core c.recall.new.self c.recall.ensures in
    record {
      stands = board_push c.self.inside.core c.recall.new.self c.self.inside.events.items c.note.new.events.items core.Recall Recall
          c.self.invariant.stands c.recall.ensures c.note.ensures.items refl;
      room = omega (arith, none, c.self.invariant.room, c.out_len.ensures, c.if-out_len-gt0.true, c.note.ensures.len, c.note.ensures.capacity);
    }
