use Rattle.std.proofs.Common.{sym, ◌∙◌, arith}
use Rattle.ddmin_parallel.proofs.Places.{place_found, place_none}
use Rattle.ddmin_parallel.proofs.sets.place_of.Goals as goal

pub returns-then-is : goal.returns-then-is
returns-then-is c =
    place_found c.args.set.now c.args.out.now c.loop-place.place c.index-out-place.result (omega arith) c.loop-place.invariant c.index-out-place.is
    (sym c.is.ensures ∙ c.if-is.true)

pub returns : goal.returns
returns c = place_none c.args.set.now c.args.out.now (λ j d h. c.loop-place.invariant j d (omega arith))
