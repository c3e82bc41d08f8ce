-- What a queue's two passes took, and at which deques they are.
use Rattle.std.specs.Prelude.{◌≡◌, ℕ, ◌+◌, ◌<◌, Bool, count_by, Option, Some, None, All, IfSome, option_to_list}
use Rattle.crossbeam_deque.specs.Handles.{view, stealer_deque, worker_deque, worker_view}
use Rattle.worker_pool.specs.declared.queue.Next.{Next}
use Rattle.worker_pool.specs.declared.queue.LocalQueue.{LocalQueue}

abbrev pub taken_next : (ℕ → Bool) → Option Next → ℕ
taken_next test None = 0
taken_next test (Some n) = count_by test (view n.pass).stolen

-- What a queue's worker took: by pops from its own deque, and by steals from the next one.
abbrev pub took : (ℕ → Bool) → LocalQueue → ℕ
took test d = count_by test (worker_view d.own).popped + taken_next test d.next

-- The ticket that was kept, if there is one.
abbrev pub kept_by : (ℕ → Bool) → LocalQueue → ℕ
kept_by test d = count_by test (option_to_list d.kept)

-- All numbers that were pushed at the next deque, if the queue has a pass there, are below the count; and below, those at its own deque too.
abbrev pub NextBelow : ℕ → Option Next → Type 0
NextBelow count None = Unit {0}
NextBelow count (Some n) = All (λ x. x < count) (view n.pass).pushed

abbrev pub Below : ℕ → LocalQueue → Type 0
Below count d = All (λ x. x < count) (worker_view d.own).pushed × NextBelow count d.next

-- The ticket that was kept, if there is one, is below the count.
abbrev pub KeptBelow : ℕ → LocalQueue → Type 0
KeptBelow count d = IfSome d.kept (λ x. x < count)

-- The work may begin at this queue.
abbrev pub IsReady : ℕ → LocalQueue → Type 0
IsReady count d = Below count d × (d.kept ≡ None)

abbrev pub SameNext : Option Next → Option Next → Type 0
SameNext None m = m ≡ None
SameNext (Some n) None = ⊥
SameNext (Some n) (Some m) = (stealer_deque m.from ≡ stealer_deque n.from) × ((view m.pass).pushed ≡ (view n.pass).pushed)

-- The queue is unchanged except for its own pass.
abbrev pub SameButOwn : LocalQueue → LocalQueue → Type 0
SameButOwn old new = (new.next ≡ old.next) × (new.kept ≡ old.kept) × (worker_deque new.own ≡ worker_deque old.own)

-- The queue is unchanged except for the ticket that it keeps.
abbrev pub SameButKept : LocalQueue → LocalQueue → Type 0
SameButKept old new = (new.own ≡ old.own) × (new.next ≡ old.next)

-- The queue is at the same deques, with the same right to steal. What was pushed there is the same, and so is what it knows to be stolen.
pub record SameQueue (old new : LocalQueue) : Type 0 where
  pub deque : worker_deque new.own ≡ worker_deque old.own
  pub right : (worker_view new.own).steal_right ≡ (worker_view old.own).steal_right
  pub pushed : (worker_view new.own).pushed ≡ (worker_view old.own).pushed
  pub stolen : (worker_view new.own).stolen ≡ (worker_view old.own).stolen
  pub next : SameNext old.next new.next
