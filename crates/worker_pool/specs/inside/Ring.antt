-- The queues in a ring: each has its thief's pass at the deque of the next queue, or the next queue knows everything about its own deque.
use Rattle.std.specs.Prelude.{◌≡◌, ◌≢◌, ℕ, ◌+◌, ◌*◌, ◌/◌, ◌%◌, ◌<◌, ◌≤◌, ◌==◌, Bool, cond, All, List, [], count_by}
use Rattle.std.specs.Prelude.{Option, Some, None, Vec, vec_len, length, slice_index_or}
use Rattle.std.specs.declared.alloc.Global.{Global}
use Rattle.std.specs.List.{sum_by}
use Rattle.crossbeam_deque.specs.Handles.{view, stealer_deque, worker_deque, worker_view, worker_index, worker_capacity}
use Rattle.worker_pool.specs.declared.queue.Next.{Next}
use Rattle.worker_pool.specs.declared.queue.LocalQueue.{LocalQueue}
use Rattle.worker_pool.specs.inside.Parts.{IsWhole}
use Rattle.worker_pool.specs.Tickets.{count_below}
use Rattle.worker_pool.specs.inside.Queues.{took, Below}

abbrev pub next_of : ℕ → ℕ → ℕ
next_of n k = cond (k + 1 == n) 0 (k + 1)

-- The pass is at the deque of that queue. If there is no pass, that queue has the right to steal itself.
abbrev pub Link : Option Next → LocalQueue → Type 0
Link None e = 0 < (worker_view e.own).steal_right
Link (Some n) e = stealer_deque n.from ≡ worker_deque e.own

abbrev pub IsRing : List LocalQueue → Type 0
IsRing ds = (k : ℕ) (d : LocalQueue) → k < length ds → Link (slice_index_or ds k d).next (slice_index_or ds (next_of (length ds) k) d)

abbrev pub pushed_by : (ℕ → Bool) → LocalQueue → ℕ
pushed_by test d = count_by test (worker_view d.own).pushed

abbrev pub stolen_by : (ℕ → Bool) → LocalQueue → ℕ
stolen_by test d = count_by test (worker_view d.own).stolen

-- What a queue's own pass knows to have been taken from its deque.
abbrev pub gone_by : (ℕ → Bool) → LocalQueue → ℕ
gone_by test d = count_by test (worker_view d.own).popped + stolen_by test d

-- Each queue except number k has the same thief's pass as before.
abbrev pub SameNextBut : ℕ → List LocalQueue → List LocalQueue → Type 0
SameNextBut k old new = (j : ℕ) (d : LocalQueue) → j ≢ k → (slice_index_or new j d).next ≡ (slice_index_or old j d).next

-- At each queue the same was pushed as before.
abbrev pub SamePushed : List LocalQueue → List LocalQueue → Type 0
SamePushed old new = (j : ℕ) (d : LocalQueue) → (worker_view (slice_index_or new j d).own).pushed ≡ (worker_view (slice_index_or old j d).own).pushed

-- What was stolen from a queue's deque by the thief's pass, or, if there is no pass, what the queue itself knows of it.
abbrev pub stolen_from : (ℕ → Bool) → Option Next → LocalQueue → ℕ
stolen_from test None e = stolen_by test e
stolen_from test (Some n) e = count_by test (view n.pass).stolen

-- In `new`, queue `to` itself knows what was stolen from its deque: what the pass of queue k
-- stole there, or, if there was no pass, what it knew before.
abbrev pub KnowsStolen : (ℕ → Bool) → List LocalQueue → List LocalQueue → ℕ → ℕ → LocalQueue → Type 0
KnowsStolen test old new k to d =
    stolen_by test (slice_index_or new to d) ≡ stolen_from test (slice_index_or old k d).next (slice_index_or old to d)

-- The same for the thieves' passes of the first k of n queues.
abbrev pub KnowStolen : ℕ → ℕ → List LocalQueue → List LocalQueue → Type 0
KnowStolen n k old new = (test : ℕ → Bool) (j : ℕ) (d : LocalQueue) → j < k → KnowsStolen test old new j (next_of n j) d

-- What was pushed at the queue and popped there is the same, and so is the ticket that it keeps.
pub record SameOwn (old new : LocalQueue) : Type 0 where
  pub pushed : (worker_view new.own).pushed ≡ (worker_view old.own).pushed
  pub popped : (worker_view new.own).popped ≡ (worker_view old.own).popped
  pub kept : new.kept ≡ old.kept

abbrev pub SameOwns : List LocalQueue → List LocalQueue → Type 0
SameOwns old new = (j : ℕ) (d : LocalQueue) → SameOwn (slice_index_or old j d) (slice_index_or new j d)

-- The tickets were dealt round robin: queue k of n has those with remainder k.
abbrev pub AreDealtRound : ℕ → List LocalQueue → Type 0
AreDealtRound n ds = (k : ℕ) (d : LocalQueue) → k < n → All (λ x. x % n ≡ k) (worker_view (slice_index_or ds k d).own).pushed

-- In all deques together each number below the count was pushed once, and no other number was.
abbrev pub PushedOnce : ℕ → List LocalQueue → Type 0
PushedOnce count ds = (test : ℕ → Bool) → sum_by (pushed_by test) ds ≡ count_below test count

-- Some moves lead to what the deque holds and to all that the queue knows.
pub record IsSettled (d : LocalQueue) : Type 0 where
  pub held : List ℕ
  pub whole : IsWhole (worker_view d.own) held

-- A queue before the run: nothing was taken, and no ticket is kept.
pub record Fresh (count : ℕ) (d : LocalQueue) : Type 0 where
  pub below : Below count d
  pub kept : d.kept ≡ None
  pub took_none : (test : ℕ → Bool) → took test d ≡ 0
  pub stolen : (worker_view d.own).stolen ≡ []

-- A queue before the run for which no thief's pass was made yet.
pub record Whole (count : ℕ) (d : LocalQueue) : Type 0 where
  pub fresh : Fresh count d
  pub next : d.next ≡ None
  pub right : 0 < (worker_view d.own).steal_right

-- Queue j of n after the tickets below `number` were dealt round robin: it has only those with remainder j, no more
-- than its share, and its deque has room for `most` in all.
pub record DealtRound (n most number j : ℕ) (d : LocalQueue) : Type 0 where
  pub dealt : All (λ x. x % n ≡ j) (worker_view d.own).pushed
  pub index : worker_index d.own * n + j < number + n
  pub room : most ≤ worker_capacity d.own

-- n queues with room for the tickets below the count. Those below `number` were dealt round robin, each once.
pub record AreDealtBelow (n count number : ℕ) (ds : Vec LocalQueue Global) : Type 0 where
  pub len : vec_len ds ≡ n
  pub whole : All (Whole count) ds.items
  pub once : PushedOnce number ds.items
  pub room : (j : ℕ) (d : LocalQueue) → j < n → DealtRound n (count / n + 1) number j (slice_index_or ds.items j d)

-- n queues in a ring, before the run: the tickets below the count were dealt round robin, each once, and none was taken.
pub record AreDealt (n count : ℕ) (ds : Vec LocalQueue Global) : Type 0 where
  pub len : vec_len ds ≡ n
  pub ring : IsRing ds.items
  pub fresh : All (Fresh count) ds.items
  pub round : AreDealtRound n ds.items
  pub once : PushedOnce count ds.items

-- After the joins: the queue has taken back the thief's pass at its deque, and has none itself.
pub record TakenIn (d : LocalQueue) : Type 0 where
  pub next : d.next ≡ None
  pub right : 0 < (worker_view d.own).steal_right

-- Everything that was pushed at the queue was taken, and it keeps no ticket.
pub record IsDone (d : LocalQueue) : Type 0 where
  pub all : (test : ℕ → Bool) → pushed_by test d ≡ gone_by test d
  pub kept : d.kept ≡ None
