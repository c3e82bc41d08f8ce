use Rattle.std.proofs.Common.{get_or, refl, sym, ◌∙◌}
use Rattle.std.proofs.lemmas.Grind.{get_or_default_zero}
use Rattle.action_eval.proofs.PassedHits.{spent_less, all_given}
use Rattle.action_eval.proofs.quiet.give_rounds.Goals as goal

pub loop-point-init : goal.loop-point-init
loop-point-init c = record { size = refl; gives = λ whole s fits. s }

pub loop-point-preserved : goal.loop-point-preserved
loop-point-preserved c =
    let i = c.loop-point.point-index in
    let x = get_or c.args.points.now i 0 in
    record {
      size = c.give_hits.ensures.size ∙ c.loop-point.invariant.size;
      gives = λ whole s fits.
          spent_less c.args.heads.now c.args.points.now c.args.times i x whole _ _ c.loop-point-test.true (sym (get_or_default_zero c.args.points.now i x c.loop-point-test.true))
          (c.loop-point.invariant.gives whole s fits) fits c.give_hits.ensures.size c.give_hits.ensures.each;
    }

pub returns : goal.returns
returns c = λ whole s fits. all_given c.args.heads.now c.args.points.now c.args.times c.loop-point.point-index whole c.loop-point.left.items c.loop-point-test.false (c.loop-point.invariant.gives whole s fits)
