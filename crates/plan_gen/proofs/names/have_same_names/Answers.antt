use Rattle.plan_gen.proofs.Rigged.{same_from, names_differ}
use Rattle.plan_gen.proofs.names.have_same_names.Goals as goal

pub loop-point-preserved : goal.loop-point-preserved
loop-point-preserved c = λ rest.
    c.loop-point.invariant (same_from c.args.own.now c.args.other.now c.loop-point.point _ _ c.loop-point-test.true c.if-own-other.false c.if-ne.ensures rest)

pub returns-then-ne-clause-differ : goal.returns-then-ne-clause-differ
returns-then-ne-clause-differ c = λ _.
    names_differ c.args.own.now c.args.other.now c.loop-point.point _ _ c.loop-point-test.true c.if-own-other.false c.if-ne.ensures
