use Rattle.std.proofs.Common.{◌==◌, ◌∷◌, ◌++◌, ◌∙◌, [], ap, cond, get_or, sym}
use Rattle.campaign_core.proofs.Unreached.{kept_more}
use Rattle.campaign_core.proofs.watching.uncounted.Goals as goal

pub loop-point-preserved : goal.loop-point-preserved
loop-point-preserved c =
    let n = c.loop-point.point in
    c.in_ok-keep_if.ensures
    ∙ ap (λ l. l ++ cond (get_or c.args.counts.now n 0 == 0) (n ∷ []) []) c.loop-point.invariant
    ∙ sym (kept_more (λ p. get_or c.args.counts.now p 0 == 0) n)
