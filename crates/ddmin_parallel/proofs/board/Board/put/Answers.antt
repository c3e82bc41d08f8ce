use Rattle.std.proofs.Common.{◌≡◌, true, sym, ◌∙◌, ap, arith}
use Rattle.std.specs.List.{list_any}
use Rattle.ddmin_parallel.specs.CoreEvents as core
use Rattle.ddmin_parallel.specs.declared.board.Event.TheVariants.{Put}
use Rattle.ddmin_parallel.proofs.BoardLemmas.{board_push, out_put}
use Rattle.ddmin_parallel.proofs.board.Board.put.Goals as goal

pub invariant_of-self : goal.invariant_of-self
invariant_of-self c =
    let was : list_any (core.same_set c.args.request) c.self.inside.core.out ≡ true =
    ap (λ s. list_any (core.same_set s) c.self.inside.core.out) (sym c.packed.ensures) ∙ sym c.has_out.ensures ∙ c.if-not-has_out.false in
    let fewer = out_put c.self.inside.core c.put.new.self c.args.request c.args.fails was c.in-Ok-put.ensures.event in
    record {
      stands = board_push c.self.inside.core c.put.new.self c.self.inside.events.items c.note.new.events.items (core.Put c.args.request c.args.fails)
          (Put c.in-Ok.copy c.args.fails)
          c.self.invariant.stands c.in-Ok-put.ensures.event c.note.ensures.items (ap (λ s. core.Put s c.args.fails) (c.in-Ok.ensures ∙ c.packed-2.ensures));
      room = omega (arith, fewer, c.self.invariant.room, c.note.ensures.len, c.note.ensures.capacity);
    }
