use Rattle.std.proofs.Common.{◌≡◌, ℕ, ◌<◌, ◌≤◌, Some, vec_len, vec_capacity, slice_index_or}
use Rattle.worker_pool.specs.declared.queue.LocalQueue.{LocalQueue}
use Rattle.worker_pool.specs.inside.ActiveWorkers.{SameWork}
use Rattle.worker_pool.proofs.run.take_back.Given as goal

abbrev pub invariant-loop-k : goal.invariant-loop-k
invariant-loop-k g l = record {
  len : vec_len l.team ≡ vec_len l.initial.team;
  many : vec_len l.queues ≡ l.k;
  room : vec_len l.initial.team ≤ vec_capacity l.queues;
  back : (k : ℕ) (h : _) (d : LocalQueue) → k < l.k → (slice_index_or l.initial.team.items k h).queue ≡ Some (slice_index_or l.queues.items k d);
  still : (k : ℕ) (h : _) → l.k ≤ k → (slice_index_or l.team.items k h).queue ≡ (slice_index_or l.initial.team.items k h).queue;
  same : (k : ℕ) (s : _) → SameWork (slice_index_or l.initial.team.items k s) (slice_index_or l.team.items k s);
}
