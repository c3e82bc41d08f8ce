use Rattle.std.proofs.Common.{◌≡◌, ℕ, ◌<◌, ◌≤◌, None, IsSome, All, vec_len, slice_index_or}
use Rattle.worker_pool.specs.declared.queue.LocalQueue.{LocalQueue}
use Rattle.worker_pool.specs.inside.Ring.{IsRing, Fresh, SamePushed}
use Rattle.worker_pool.proofs.ring.link_all.Given as goal

abbrev pub invariant-loop-k : goal.invariant-loop-k
invariant-loop-k l = record {
  len : vec_len l.queues ≡ l.n;
  ring : IsRing l.queues.items;
  none : (j : ℕ) (d : LocalQueue) → l.k ≤ j → j < l.n → (slice_index_or l.queues.items j d).next ≡ None;
  linked : (j : ℕ) (d : LocalQueue) → j < l.k → IsSome (slice_index_or l.queues.items j d).next;
  fresh : All (Fresh l.count) l.queues.items;
  pushed : SamePushed l.initial.queues.items l.queues.items;
}
