use Rattle.std.proofs.Common.{◌≡◌, ◌+◌, ◌/◌, ℕ, Bool, All, vec_len}
use Rattle.std.specs.List.{sum_by}
use Rattle.worker_pool.specs.inside.Ring.{Whole, pushed_by}
use Rattle.worker_pool.proofs.Dealing.{HasRoom}
use Rattle.worker_pool.proofs.ring.empty_queues.Given as goal

abbrev pub invariant-loop-made : goal.invariant-loop-made
invariant-loop-made l = record {
  len : vec_len l.queues ≡ l._made;
  whole : All (Whole l.count) l.queues.items;
  pushed : (test : ℕ → Bool) → sum_by (pushed_by test) l.queues.items ≡ 0;
  room : All (HasRoom (l.count / l.n + 1)) l.queues.items;
}
