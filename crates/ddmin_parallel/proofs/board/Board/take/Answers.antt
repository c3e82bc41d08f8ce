use Rattle.std.proofs.Common.{◌≡◌, ◌∙◌, ap, subst, arith, ◌++◌, ◌∷◌, [], IfSome}
use Rattle.ddmin_parallel.specs.CoreEvents as core
use Rattle.ddmin_parallel.specs.declared.board.Event.TheVariants.{Take}
use Rattle.ddmin_parallel.proofs.BoardLemmas.{board_push, out_taken}
use Rattle.ddmin_parallel.proofs.board.Board.take.Goals as goal

pub invariant_of-self-in-Some-2 : goal.invariant_of-self-in-Some-2
invariant_of-self-in-Some-2 c =
    let copied = subst (λ o. IfSome o (λ r. r.1 ≡ r.0)) c.in-Some-2.is c.in_ok-take_two.ensures.copy in
    let event = c.in_ok-take_two.ensures.event ∙ ap (λ o. core.after_take c.self.inside.core (core.option_then (λ r. r.0) o)) c.in-Some-2.is in
    let more = out_taken c.self.inside.core c.take_two.new.self c.in-Some-2.request event in
    record {
      stands = board_push c.self.inside.core c.take_two.new.self c.self.inside.events.items c.note.new.events.items (core.Take c.in-Some-2.request)
          (Take c.in-Some-2.copy)
          c.self.invariant.stands event (c.note.ensures.items ∙ ap (λ es. es ++ Take c.in-Some-2.copy ∷ []) c.in_ok-reserve.ensures.items)
          (ap core.Take copied);
      room = omega (
        arith,
        more,
        c.out_len.ensures,
        c.in-Some.ensures,
        c.in_ok-reserve.ensures.ok,
        c.in_ok-reserve.ensures.len,
        c.note.ensures.len,
        c.note.ensures.capacity,
      );
    }
