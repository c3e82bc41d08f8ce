use Rattle.action_eval.specs.Answers.{texts}
use Rattle.campaign_main.proofs.StrictLemmas.{unreached-step}
use Rattle.campaign_main.proofs.notes.write_all_unreached.Goals as goal

pub loop-point-preserved : goal.loop-point-preserved
loop-point-preserved c =
    unreached-step (texts c.args.points.now) c.args.unreached.now c.loop-point.point-index 0 _ _ _ c.loop-point-test.true c.in_ok-write_unreached.ensures c.loop-point.invariant
