use Rattle.std.proofs.Common.{◌<◌, sym, subst}
use Rattle.worker_pool.specs.declared.rule.View.{View}
use Rattle.worker_pool.proofs.Keeps.{steals_one}
use Rattle.worker_pool.proofs.steps.steal.Goals as goal

pub steal_as-requires-clause-takes : goal.steal_as-requires-clause-takes
steal_as-requires-clause-takes g c = steals_one _ _ (subst (λ (v : View). 0 < v.steal_right) (sym c.loop.invariant.1) c.requires.right)
