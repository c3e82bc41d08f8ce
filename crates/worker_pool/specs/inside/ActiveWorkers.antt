-- An active worker: what one turn of its work, or many, change at it and its queue.
use Rattle.std.specs.Prelude.{◌≡◌, ℕ, ◌+◌, ◌<◌, ◌≤◌, ◌^◌, Bool, List, [], Vec, vec_len, All, Option, Some, None, count_by, length, map, slice_index_or}
use Rattle.std.specs.declared.alloc.Global.{Global}
use Rattle.crossbeam_deque.specs.Handles.{worker_view}
use Rattle.worker_pool.specs.declared.queue.LocalQueue.{LocalQueue}
use Rattle.worker_pool.specs.declared.active.ActiveWorker.{ActiveWorker}
use Rattle.worker_pool.specs.inside.Queues.{took, kept_by, SameQueue, IsReady, KeptBelow}
use Rattle.worker_pool.specs.inside.Ring.{AreDealtRound, Fresh, IsRing, TakenIn}

-- How many answers are for a number that passes the test.
abbrev pub answered_by : {J A S : Type 0} → (ℕ → Bool) → ActiveWorker J A S → ℕ
answered_by test s = count_by (λ p. test p.0) s.answers.items

-- Each answer of the active worker is right for this setup.
abbrev pub IsRight : {J A S T : Type 0} → (T → ℕ → A → Type 0) → T → ActiveWorker J A S → Type 0
IsRight answers setup s = All (λ p. answers setup p.0 p.1) s.answers.items

-- The answers of the active workers, in their order.
abbrev pub answers_of : {J A S : Type 0} → List (ActiveWorker J A S) → List (List (ℕ × A))
answers_of team = map (λ s. s.answers.items) team

-- The worker and the answers are unchanged.
abbrev pub SameWork : {J A S : Type 0} → ActiveWorker J A S → ActiveWorker J A S → Type 0
SameWork old new = (new.worker ≡ old.worker) × (new.answers.items ≡ old.answers.items)

-- The active worker has gone on: its setup is the same; if its answers were right before, they are right now, including
-- the new ones; and its worker has counted each new answer.
pub record GoesOn {J A S T : Type 0} (setup : J → T) (answers : T → ℕ → A → Type 0) (old new : ActiveWorker J A S) : Type 0 where
  pub stays : setup new.worker.job ≡ setup old.worker.job
  pub right : IsRight answers (setup old.worker.job) old → IsRight answers (setup old.worker.job) new
  pub grows : length old.answers.items ≤ length new.answers.items
  pub counted : old.worker.performed + length new.answers.items < 2 ^ 64 + length old.answers.items
      → new.worker.performed + length old.answers.items ≡ old.worker.performed + length new.answers.items

abbrev pub EachGoesOn : {J A S T : Type 0} → (J → T) → (T → ℕ → A → Type 0) → ℕ → List (ActiveWorker J A S) → List (ActiveWorker J A S) → Type 0
EachGoesOn setup answers n old new = (k : ℕ) (s : _) → k < n → GoesOn setup answers (slice_index_or old k s) (slice_index_or new k s)

-- A fact about each of n queues and the limit of its active worker's setup.
abbrev pub EachQueue : {J A S T : Type 0} → (ℕ → LocalQueue → Type 0) → (J → T) → (T → ℕ) → ℕ → List (ActiveWorker J A S) → List LocalQueue → Type 0
EachQueue Fact setup limit n team queues =
    (k : ℕ) (s : _) (d : LocalQueue) → k < n → Fact (limit (setup (slice_index_or team k s).worker.job)) (slice_index_or queues k d)

-- Active workers without answers, a queue for each, and the tickets dealt round robin.
pub record AreAtQueues {J A S T : Type 0} (setup : J → T) (limit : T → ℕ) (team : Vec (ActiveWorker J A S) Global)
    (queues : Vec LocalQueue Global) : Type 0 where
  pub some : 0 < vec_len team
  pub len : vec_len queues ≡ vec_len team
  pub rest : All (λ s. s.answers.items ≡ []) team.items
  pub fresh : EachQueue Fresh setup limit (vec_len team) team.items queues.items
  pub ring : IsRing queues.items
  pub round : AreDealtRound (vec_len team) queues.items

-- Everything that the queue's worker took in between, and the ticket that the queue had kept, was answered once or is the one that the queue keeps now.
abbrev pub IsBalanced : {J A S : Type 0} → ActiveWorker J A S → ActiveWorker J A S → LocalQueue → LocalQueue → Type 0
IsBalanced old new queue queue' =
    (test : ℕ → Bool) → took test queue + answered_by test new + kept_by test queue' ≡ took test queue' + answered_by test old + kept_by test queue

-- The worker has worked at its queue, while others stole.
pub record Worked {J A S T : Type 0} (setup : J → T) (limit : T → ℕ) (answers : T → ℕ → A → Type 0)
    (old new : ActiveWorker J A S) (queue queue' : LocalQueue) : Type 0 where
  pub on : GoesOn setup answers old new
  pub once : IsBalanced old new queue queue'
  pub same : SameQueue queue queue'
  pub kept : KeptBelow (limit (setup old.worker.job)) queue'

-- Each of n active workers has worked at its queue.
abbrev pub EachWorked : {J A S T : Type 0} → (J → T) → (T → ℕ) → (T → ℕ → A → Type 0) → ℕ
    → List (ActiveWorker J A S) → List (ActiveWorker J A S) → List LocalQueue → List LocalQueue → Type 0
EachWorked setup limit answers n old new queues queues' = (k : ℕ) (s : _) (d : LocalQueue) → k < n
    → Worked setup limit answers (slice_index_or old k s) (slice_index_or new k s) (slice_index_or queues k d) (slice_index_or queues' k d)

-- The same for active workers that may have no queue.
abbrev pub IsReadyAt : ℕ → Option LocalQueue → Type 0
IsReadyAt count None = Unit {0}
IsReadyAt count (Some d) = IsReady count d

abbrev pub WorkedAt : {J A S T : Type 0} → (J → T) → (T → ℕ) → (T → ℕ → A → Type 0)
    → ActiveWorker J A S → ActiveWorker J A S → Option LocalQueue → Option LocalQueue → Type 0
WorkedAt setup limit answers old new None e = e ≡ None
WorkedAt setup limit answers old new (Some d) None = ⊥
WorkedAt setup limit answers old new (Some d) (Some e) = Worked setup limit answers old new d e

-- Each active worker is ready at its queue, if it has one.
abbrev pub AreReadyAt : {J A S T : Type 0} → (J → T) → (T → ℕ) → List (ActiveWorker J A S) → Type 0
AreReadyAt setup limit team = All (λ s. IsReadyAt (limit (setup s.worker.job)) s.queue) team

-- Each active worker has worked at its queue, if it had one.
abbrev pub EachWorkedAt : {J A S T : Type 0} → (J → T) → (T → ℕ) → (T → ℕ → A → Type 0) → List (ActiveWorker J A S) → List (ActiveWorker J A S) → Type 0
EachWorkedAt setup limit answers old new = (k : ℕ) (s : _) → k < length old
    → WorkedAt setup limit answers (slice_index_or old k s) (slice_index_or new k s) (slice_index_or old k s).queue (slice_index_or new k s).queue

-- What the caller's thread finds at a queue after the joins.
pub record IsLeft (count : ℕ) (d : LocalQueue) : Type 0 where
  pub taken_in : TakenIn d
  pub below : All (λ x. x < count) (worker_view d.own).pushed
  pub kept : KeptBelow count d

-- The active worker has worked at a queue that the workers left.
pub record Finishes {J A S T : Type 0} (setup : J → T) (answers : T → ℕ → A → Type 0) (old new : ActiveWorker J A S) (queue queue' : LocalQueue) : Type 0 where
  pub on : GoesOn setup answers old new
  pub once : IsBalanced old new queue queue'
  pub taken_in : TakenIn queue'
  pub pushed : (worker_view queue'.own).pushed ≡ (worker_view queue.own).pushed
  pub stolen : (worker_view queue'.own).stolen ≡ (worker_view queue.own).stolen

-- The same for each of n active workers.
abbrev pub EachFinishes : {J A S T : Type 0} → (J → T) → (T → ℕ → A → Type 0) → ℕ
    → List (ActiveWorker J A S) → List (ActiveWorker J A S) → List LocalQueue → List LocalQueue → Type 0
EachFinishes setup answers n old new queues queues' = (k : ℕ) (s : _) (d : LocalQueue) → k < n
    → Finishes setup answers (slice_index_or old k s) (slice_index_or new k s) (slice_index_or queues k d) (slice_index_or queues' k d)
