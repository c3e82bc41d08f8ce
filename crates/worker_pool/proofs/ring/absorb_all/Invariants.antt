use Rattle.std.proofs.Common.{◌≡◌, ℕ, ◌<◌, ◌≤◌, None, vec_len, slice_index_or}
use Rattle.crossbeam_deque.specs.Handles.{worker_view}
use Rattle.worker_pool.specs.declared.queue.LocalQueue.{LocalQueue}
use Rattle.worker_pool.specs.inside.Ring.{next_of, IsRing, KnowStolen, SameOwns}
use Rattle.worker_pool.proofs.ring.absorb_all.Given as goal

abbrev pub invariant-loop-k : goal.invariant-loop-k
invariant-loop-k l = record {
  len : vec_len l.queues ≡ l.n;
  ring : IsRing l.queues.items;
  none : (j : ℕ) (d : LocalQueue) → j < l.k → (slice_index_or l.queues.items j d).next ≡ None;
  later : (j : ℕ) (d : LocalQueue) → l.k ≤ j → (slice_index_or l.queues.items j d).next ≡ (slice_index_or l.initial.queues.items j d).next;
  stolen : KnowStolen l.n l.k l.initial.queues.items l.queues.items;
  still : (j : ℕ) (d : LocalQueue) → l.k ≤ j → j < l.n
      → (worker_view (slice_index_or l.queues.items (next_of l.n j) d).own).stolen
      ≡ (worker_view (slice_index_or l.initial.queues.items (next_of l.n j) d).own).stolen;
  each : SameOwns l.initial.queues.items l.queues.items;
}
