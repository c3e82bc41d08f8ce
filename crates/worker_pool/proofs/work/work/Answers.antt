use Rattle.std.proofs.Common.{◌≡◌, ◌∙◌, Option, Some, sym, subst, refl}
use Rattle.worker_pool.specs.declared.queue.LocalQueue.{LocalQueue}
use Rattle.worker_pool.specs.inside.ActiveWorkers.{IsReadyAt}
use Rattle.worker_pool.proofs.Turns.{WorkedAt-from}
use Rattle.worker_pool.proofs.work.work.Goals as goal

pub work_at-requires-after_bounds : goal.work_at-requires-after_bounds
work_at-requires-after_bounds g c κs within =
    let had : c.args.active.now.queue ≡ Some c.in-Some.queue = sym c.take.ensures.value ∙ c.in-Some.is in
    subst (λ (o : Option LocalQueue). IsReadyAt (g.J.Job.limit (g.J.Job.setup c.args.active.now.worker.job)) o) had c.requires

pub returns : goal.returns
returns g c =
    let had : c.args.active.now.queue ≡ Some c.in-Some.queue = sym c.take.ensures.value ∙ c.in-Some.is in
    WorkedAt-from g.J.Job.setup g.J.Job.limit g.J.Job.answers _ _ _ _ _ _ c.in-Some.queue c.work_at.new.queue had refl (refl, refl) (refl, refl) c.work_at.ensures
