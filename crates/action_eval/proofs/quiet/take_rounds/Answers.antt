use Rattle.std.proofs.Common.{get_or, sym}
use Rattle.std.proofs.lemmas.Grind.{get_or_default_zero}
use Rattle.action_eval.proofs.PassedHits.{spent_more}
use Rattle.action_eval.proofs.quiet.take_rounds.Goals as goal

pub loop-place-preserved : goal.loop-place-preserved
loop-place-preserved c =
    let i = c.loop-place.place in
    let x = get_or c.args.points.now i 0 in
    spent_more c.args.heads.now c.args.points.now c.args.times i x _ _ _ c.loop-place-test.true (sym (get_or_default_zero c.args.points.now i x c.loop-place-test.true)) c.loop-place.invariant
    (c.take_hits.ensures.taken c.if-not-take_hits.false)
