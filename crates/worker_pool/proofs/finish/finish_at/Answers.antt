use Rattle.std.proofs.Common.{slice_index_or, sym, subst}
use Rattle.worker_pool.specs.declared.queue.LocalQueue.{LocalQueue}
use Rattle.worker_pool.specs.declared.active.ActiveWorker.{ActiveWorker}
use Rattle.worker_pool.specs.inside.ActiveWorkers.{IsLeft}
use Rattle.worker_pool.proofs.finish.finish_at.Goals as goal

pub finish_one-requires-after_bounds : goal.finish_one-requires-after_bounds
finish_one-requires-after_bounds g c κs within =
    let s : ActiveWorker g.row.J.Denot g.row.J-Answer.Denot g.row.J-Setup.Denot = c.index_mut.result.now in
    let d : LocalQueue = c.index_mut-2.result.now in
    subst (λ (x : ActiveWorker g.row.J.Denot g.row.J-Answer.Denot g.row.J-Setup.Denot). IsLeft (g.J.Job.limit (g.J.Job.setup x.worker.job)) d)
    (sym c.index_mut.ensures.value)
    (subst (λ (x : LocalQueue). IsLeft (g.J.Job.limit (g.J.Job.setup (slice_index_or c.args.team.now.items c.args.k s).worker.job)) x)
    (sym c.index_mut-2.ensures.value) (c.requires.left s d))
