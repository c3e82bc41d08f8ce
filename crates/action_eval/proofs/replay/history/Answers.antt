use Rattle.std.proofs.Common.{ℕ, ◌≡◌, ◌+◌, ◌∷◌, ◌++◌, [], take, get_or, ap, ◌∙◌, arith, add-one}
use Rattle.std.proofs.Math.Seq.{take-suc}
use Rattle.std.proofs.lemmas.List.{length-take}
use Rattle.action_eval.specs.Answers.{texts, run_of}
use Rattle.action_eval.proofs.Replays.{fits_found_by, replayed}
use Rattle.action_eval.proofs.replay.history.Goals as goal

pub answer_again-requires-clause-within : goal.answer_again-requires-clause-within
answer_again-requires-clause-within c =
    let i = c.loop-point.invariant in
    (fits_found_by (run_of c.args.scenario.now (texts c.args.catalogue.now) c.args.seed c.args.stream c.args.max_hits (take c.loop-point.point-index c.args.points.now)) _ i.scenario i.kept.left_is _ _ c.find_or_none-found.ensures).within

pub loop-point-preserved : goal.loop-point-preserved
loop-point-preserved c =
    let i = c.loop-point.invariant in
    let k = c.loop-point.point-index in
    let ps = c.args.points.now in
    let r = run_of c.args.scenario.now (texts c.args.catalogue.now) c.args.seed c.args.stream c.args.max_hits (take k ps) in
    let after : take (k + 1) ps ≡ take k ps ++ get_or ps k 0 ∷ [] = ap (λ (n : ℕ). take n ps) (add-one k) ∙ take-suc ps k 0 c.loop-point-test.true in
    let n = replayed r _ _ _ _ i.scenario i.kept (omega (arith, length-take k ps, c.loop-point-test.true, c.requires.few)) (take (k + 1) ps) after _ c.name_of-name.ensures _ c.find_or_none-found.ensures
    c.answer_again.ensures.within _ c.answer_again.ensures.hit _ c.answer_again.ensures.left _ c.answer_again.ensures.draws _ c.in_ok-push.ensures.items
    in
    record { scenario = i.scenario; kept = n.0; few = omega (arith, n.1, i.few) }
