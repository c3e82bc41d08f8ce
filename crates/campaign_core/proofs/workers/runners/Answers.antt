use Rattle.std.proofs.Common.{refl, arith}
use Rattle.campaign_core.proofs.Gathered.{same_push_three}
use Rattle.campaign_core.proofs.workers.runners.Goals as goal

pub loop-preserved : goal.loop-preserved
loop-preserved g c = (
  omega (arith, c.in_ok-push.ensures.len, c.loop.invariant.0),
  same_push_three c.loop.all.items c.push.new.self.items _ c.args.target.now c.args.input.now c.args.first
      (λ r. r.target) (λ r. r.input.now) (λ r. r.first) c.in_ok-push.ensures.items c.loop.invariant.1 c.in_ok-target.ensures refl refl,
)
