use Rattle.std.proofs.Common.{◌≡◌, None}
use Rattle.worker_pool.specs.inside.ActiveWorkers.{Finishes, IsLeft}
use Rattle.worker_pool.proofs.finish.finish_deque.Given as goal

abbrev pub invariant-loop : goal.invariant-loop
invariant-loop g l = record {
  finishes : Finishes g.J.Job.setup g.J.Job.answers l.initial.active l.active l.initial.queue l.queue;
  left : IsLeft (g.J.Job.limit (g.J.Job.setup l.active.worker.job)) l.queue;
  kept : l.queue.kept ≡ None;
}
