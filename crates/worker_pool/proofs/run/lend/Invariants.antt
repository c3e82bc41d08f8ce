use Rattle.std.proofs.Common.{◌≡◌, ℕ, ◌<◌, ◌≤◌, Some, take, vec_len, slice_index_or}
use Rattle.worker_pool.specs.declared.queue.LocalQueue.{LocalQueue}
use Rattle.worker_pool.specs.inside.ActiveWorkers.{SameWork}
use Rattle.worker_pool.proofs.run.lend.Given as goal

abbrev pub invariant-loop-queue : goal.invariant-loop-queue
invariant-loop-queue g l = record {
  len : vec_len l.team ≡ vec_len l.initial.team;
  few : vec_len l.queues ≤ vec_len l.initial.team;
  rest : l.queues.items ≡ take (vec_len l.queues) l.initial.queues.items;
  lent : (k : ℕ) (h : _) (d : LocalQueue) → vec_len l.queues ≤ k → k < vec_len l.initial.team
      → (slice_index_or l.team.items k h).queue ≡ Some (slice_index_or l.initial.queues.items k d);
  same : (k : ℕ) (s : _) → SameWork (slice_index_or l.initial.team.items k s) (slice_index_or l.team.items k s);
}

abbrev pub decreases-loop-queue : goal.decreases-loop-queue
decreases-loop-queue g l = vec_len l.queues
