-- What a caller sees of workers, and of what they performed in a run.
use Rattle.std.specs.Prelude.{◌≡◌, ℕ, ◌+◌, ◌<◌, ◌≤◌, ◌^◌, Bool, List, [], Vec, vec_len, length, map, All, count_by, slice_index_or}
use Rattle.std.specs.List.{sum_by}
use Rattle.std.specs.declared.alloc.Global.{Global}
use Rattle.worker_pool.specs.declared.worker.Worker.{Worker}
use Rattle.worker_pool.specs.Tickets.{Step, IsStepOf, IsDealtRound, after, of_worker, pushed, count_below}

-- The worker's job.
abbrev pub worker_job : {J A S : Type 0} → Worker J A S → J
worker_job worker = worker.job

-- How many tickets the worker has performed, over all runs.
abbrev pub worker_performed : {J A S : Type 0} → Worker J A S → ℕ
worker_performed worker = worker.performed

-- The setups of the workers' jobs, in the order of the workers.
abbrev pub setups_of : {J A S T : Type 0} → (J → T) → List (Worker J A S) → List T
setups_of setup workers = map (λ h. setup (worker_job h)) workers

-- How many answers in all lists are for a number that passes the test.
abbrev pub answered : {A : Type 0} → (ℕ → Bool) → List (Vec (ℕ × A) Global) → ℕ
answered test lists = sum_by (λ l. count_by (λ p. test p.0) l.items) lists

-- In all lists together each number below the count has exactly one answer, and no other number has one. To see this for a number n, take the test
-- `is n`; for the others, the test `is not below the count`.
abbrev pub EachOnce : {A : Type 0} → List (Vec (ℕ × A) Global) → ℕ → Type 0
EachOnce lists count = (test : ℕ → Bool) → answered test lists ≡ count_below test count

-- How many answers of worker k are for a number that passes the test.
abbrev pub answered_at : {A : Type 0} → (ℕ → Bool) → List (List (ℕ × A)) → ℕ → ℕ
answered_at test lists k = count_by (λ p. test p.0) (slice_index_or lists k [])

-- In each of n lists the answers are right for the setup of the worker's job.
abbrev pub AreRight : {J A S T : Type 0} → (J → T) → (T → ℕ → A → Type 0) → ℕ → List (Worker J A S) → List (Vec (ℕ × A) Global) → Type 0
AreRight setup answers n workers lists = (k : ℕ) (h : _) (l : _) → k < n
    → All (λ p. answers (setup (worker_job (slice_index_or workers k h))) p.0 p.1) (slice_index_or lists k l).items

-- Each of n workers has counted its answers, unless its count would exceed 64 bits.
abbrev pub AreCounted : {J A S : Type 0} → ℕ → List (Worker J A S) → List (Worker J A S) → List (Vec (ℕ × A) Global) → Type 0
AreCounted n before after lists = (k : ℕ) (h : _) (l : _) → k < n
    → worker_performed (slice_index_or before k h) + vec_len (slice_index_or lists k l) < 2 ^ 64
    → worker_performed (slice_index_or after k h) ≡ worker_performed (slice_index_or before k h) + vec_len (slice_index_or lists k l)

-- A whole run: some steps of n workers deal the tickets below the count round robin, leave each deque empty, and leave each
-- worker with exactly the numbers that it answered, each once.
pub record SharesAll {A : Type 0} (n count : ℕ) (lists : List (List (ℕ × A))) : Type 0 where
  pub steps : List Step
  pub of_workers : All (IsStepOf n) steps
  pub round : All (IsDealtRound n) steps
  pub dealt : (test : ℕ → Bool) → count_by test (pushed steps) ≡ count_below test count
  pub empty : All (λ deque. deque ≡ []) (after n steps).deques
  pub taken : (test : ℕ → Bool) (k : ℕ) → k < n → count_by test (of_worker k (after n steps).taken) ≡ answered_at test lists k

-- A run that was cut short: some steps of n workers deal tickets below the count round robin, each at most once. Each worker took the numbers that it
-- answered, and possibly others, which it kept when memory was refused.
pub record SharesPart {A : Type 0} (n count : ℕ) (lists : List (List (ℕ × A))) : Type 0 where
  pub steps : List Step
  pub of_workers : All (IsStepOf n) steps
  pub round : All (IsDealtRound n) steps
  pub dealt : (test : ℕ → Bool) → count_by test (pushed steps) ≤ count_below test count
  pub taken : (test : ℕ → Bool) (k : ℕ) → k < n → answered_at test lists k ≤ count_by test (of_worker k (after n steps).taken)

-- A run that performed some of the tickets: the workers before it and after it.
pub record PerformsPart {J A S T : Type 0} (setup : J → T) (answers : T → ℕ → A → Type 0) (before after : List (Worker J A S)) (count : ℕ) : Type 0 where
  -- For each worker, the numbers that it performed, with the answers of its job.
  pub lists : List (List (ℕ × A))
  pub many : length lists ≡ length before
  pub right : (k : ℕ) (h : Worker J A S) (l : List (ℕ × A)) → k < length before
      → All (λ p. answers (setup (worker_job (slice_index_or before k h))) p.0 p.1) (slice_index_or lists k l)
  pub shared : SharesPart (length before) count lists
  -- In all lists together each number below the count occurs at most once, and no other number occurs.
  pub once : (test : ℕ → Bool) → sum_by (λ l. count_by (λ p. test p.0) l) lists ≤ count_below test count
  pub most : sum_by (λ l. length l) lists ≤ count
  -- Each worker has counted what it performed.
  pub counted : (k : ℕ) (h : Worker J A S) (l : List (ℕ × A)) → k < length before
      → worker_performed (slice_index_or before k h) + length (slice_index_or lists k l) < 2 ^ 64
      → worker_performed (slice_index_or after k h) ≡ worker_performed (slice_index_or before k h) + length (slice_index_or lists k l)
  pub performed : sum_by worker_performed before + count < 2 ^ 64
      → sum_by worker_performed after ≡ sum_by worker_performed before + sum_by (λ l. length l) lists
