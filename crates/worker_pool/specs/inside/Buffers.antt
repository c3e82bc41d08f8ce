-- The memory that a run takes before its first ticket is performed.
use Rattle.std.specs.Prelude.{◌≡◌, ℕ, ◌≤◌, [], Vec, vec_capacity}
use Rattle.std.specs.declared.alloc.Global.{Global}
use Rattle.worker_pool.specs.declared.buffers.Buffers.{Buffers}
use Rattle.worker_pool.specs.inside.Ring.{AreDealt}

-- The vector is empty and has room for n values.
abbrev pub HasPlaces : {A : Type 0} → ℕ → Vec A Global → Type 0
HasPlaces n v = (v.items ≡ []) × (n ≤ vec_capacity v)

-- What n workers need for the tickets below the count.
pub record AreBuffers {J A S : Type 0} (n count : ℕ) (buffers : Buffers J A S) : Type 0 where
  pub queues : AreDealt n count buffers.queues
  pub spare : HasPlaces n buffers.spare
  pub team : HasPlaces n buffers.team
  pub workers : HasPlaces n buffers.workers
  pub answers : HasPlaces n buffers.answers
