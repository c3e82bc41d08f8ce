use Rattle.std.proofs.Common.{take, sym, subst}
use Rattle.std.proofs.lemmas.List.{take_more}
use Rattle.grown_plans.specs.AskedPoints.{AreCounts}
use Rattle.grown_plans.proofs.begun.count_from.Goals as goal

pub loop-i-preserved : goal.loop-i-preserved
loop-i-preserved c =
    let asked = c.args.asked.now in
    let i = c.loop-i.i in
    subst (AreCounts c.count_hit.new.counts) (sym (take_more asked i 0 c.loop-i-test.true)) (c.count_hit.ensures (take i asked) c.loop-i.invariant)
