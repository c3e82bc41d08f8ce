use Rattle.std.proofs.Common.{◌≡◌, sym, ◌∙◌, ap, subst}
use Rattle.ddmin_parallel.specs.Logs.{Tells}
use Rattle.ddmin_parallel.proofs.BoardLemmas.{tells_take, tells_put}
use Rattle.ddmin_parallel.proofs.by_core.answer_next.Goals as goal

pub returns-in-Ok-clause-tells : goal.returns-in-Ok-clause-tells
returns-in-Ok-clause-tells g c = λ faults tells. λ is.
    let test = g.P.Probe.answers c.args.probe.now in
    let taken : Tells faults test c.take.new.self =
    subst (Tells faults test) (sym c.in_ok-request.ensures.event) (tells_take faults test c.args.core.now c.in_ok-request.field-0 tells) in
    let own : c.in_ok-fails.fails ≡ test c.in-Some.request =
    c.in_ok-fails.ensures.answer ∙ ap test c.set.ensures in
    subst (Tells faults test) (sym c.in-Ok.ensures.event) (tells_put faults test c.take.new.self c.in-Some.request c.in_ok-fails.fails taken own)
