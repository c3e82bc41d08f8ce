use Rattle.std.proofs.Common.{◌≡◌, ℕ, ◌<◌, ◌≤◌, vec_len, slice_index_or}
use Rattle.worker_pool.specs.declared.queue.LocalQueue.{LocalQueue}
use Rattle.worker_pool.specs.inside.Ring.{IsDone}
use Rattle.worker_pool.specs.inside.ActiveWorkers.{EachFinishes}
use Rattle.worker_pool.proofs.finish.finish_all.Given as goal

abbrev pub invariant-loop-k : goal.invariant-loop-k
invariant-loop-k g l = record {
  len : vec_len l.team ≡ vec_len l.initial.team;
  many : vec_len l.queues ≡ vec_len l.initial.queues;
  finishes : EachFinishes g.J.Job.setup g.J.Job.answers l.k l.initial.team.items l.team.items l.initial.queues.items l.queues.items;
  others : (j : ℕ) (s : _) → l.k ≤ j → slice_index_or l.team.items j s ≡ slice_index_or l.initial.team.items j s;
  still : (j : ℕ) (d : LocalQueue) → l.k ≤ j → slice_index_or l.queues.items j d ≡ slice_index_or l.initial.queues.items j d;
  done : (j : ℕ) (d : LocalQueue) → j < l.k → IsDone (slice_index_or l.queues.items j d);
}
