use Rattle.worker_pool.specs.inside.Queues.{IsReady}
use Rattle.worker_pool.specs.inside.ActiveWorkers.{Worked}
use Rattle.worker_pool.proofs.work.work_at.Given as goal

abbrev pub invariant-loop : goal.invariant-loop
invariant-loop g l = record {
  worked : Worked g.J.Job.setup g.J.Job.limit g.J.Job.answers l.initial.active l.active l.initial.queue l.queue;
  ready : IsReady (g.J.Job.limit (g.J.Job.setup l.active.worker.job)) l.queue;
}
