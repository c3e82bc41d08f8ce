use Rattle.plan_gen.specs.declared.drawing.Source.TheVariants.{Storm}
use Rattle.std.proofs.Common.{refl}
use Rattle.plan_gen.proofs.Lists.{pushed_onto}
use Rattle.plan_gen.proofs.parts.add_storms.Goals as goal

pub loop-number-preserved : goal.loop-number-preserved
loop-number-preserved c = pushed_onto Storm c.loop-number.number _ c.loop-number.sources.items _ _ c.loop-number.invariant c.in_ok-push.ensures.items refl
