use Rattle.std.proofs.Common.{refl, arith}
use Rattle.campaign_core.proofs.Gathered.{same_push}
use Rattle.campaign_core.proofs.probe.probes.Goals as goal

pub loop-preserved : goal.loop-preserved
loop-preserved g c = (
  omega (arith, c.in_ok-push.ensures.len, c.loop.invariant.0),
  same_push c.loop.all.items c.push.new.self.items _ c.args.target.now c.args.failure.now
      (λ p. p.target) (λ p. p.failure.now) c.in_ok-push.ensures.items c.loop.invariant.1 c.in_ok-target.ensures refl,
)
