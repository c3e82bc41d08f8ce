use Rattle.std.proofs.Common.{◌+◌}
use Rattle.action_eval.specs.Trial.{is_spent}
use Rattle.action_eval.proofs.Rests.{one_more_spent, spent_by}
use Rattle.action_eval.proofs.found.without_spent.Goals as goal

pub loop-place-preserved : goal.loop-place-preserved
loop-place-preserved c =
    one_more_spent (is_spent c.args.left.now) c.args.found.start c.loop-place.place c.args.found.chain.now c.term-item.result c.loop-place-test.true c.term-item.is
    (spent_by c.args.left.now (c.args.found.start + c.loop-place.place) c.term-item.result c.if-is_none.ensures c.if-left-found-ne0.false) c.loop-place.invariant
