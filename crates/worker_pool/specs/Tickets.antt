-- Tickets on the deques of any number of workers. A ticket is a number. Worker h pushes at the back of deque h before the work begins, pops from the
-- front of this deque, and steals from the front of the next worker's deque.
use Rattle.std.specs.Prelude.{◌≡◌, ℕ, zero, suc, ◌+◌, ◌%◌, ◌<◌, Bool, cond, List, [], ◌∷◌, ◌++◌, replicate, slice_set, slice_index_or}

-- A step, with the number of the worker that makes it.
pub data Step : Type 0 where
  push : ℕ → ℕ → Step
  pop : ℕ → Step
  steal : ℕ → Step

-- The numbers in each worker's deque, from front to back, and those that each worker took.
pub record State : Type 0 where
  pub deques : List (List ℕ)
  pub taken : List (List ℕ)

-- The list at a worker's place.
abbrev pub of_worker : ℕ → List (List ℕ) → List ℕ
of_worker h lists = slice_index_or lists h []

-- The lists with x added at the back of worker h's list.
abbrev pub added : ℕ → ℕ → List (List ℕ) → List (List ℕ)
added h x lists = slice_set lists h (of_worker h lists ++ x ∷ [])

-- Worker h takes the front of deque d. At an empty deque nothing happens.
abbrev pub front_taken : ℕ → ℕ → List ℕ → State → State
front_taken h d [] s = s
front_taken h d (x ∷ rest) s = record { deques = slice_set s.deques d rest; taken = added h x s.taken }

abbrev pub taken_from : ℕ → ℕ → State → State
taken_from h d s = front_taken h d (of_worker d s.deques) s

abbrev pub stepped : ℕ → Step → State → State
stepped n (push h x) s = record { deques = added h x s.deques; taken = s.taken }
stepped n (pop h) s = taken_from h h s
stepped n (steal h) s = taken_from h ((h + 1) % n) s

-- The state of n workers after a list of steps, the latest of which comes first.
abbrev pub after : ℕ → List Step → State
after n [] = record { deques = replicate n []; taken = replicate n [] }
after n (step ∷ earlier) = stepped n step (after n earlier)

-- A step of one of n workers. If there is only one deque, there is none to steal from.
abbrev pub IsStepOf : ℕ → Step → Type 0
IsStepOf n (push h x) = h < n
IsStepOf n (pop h) = h < n
IsStepOf n (steal h) = (h < n) × (1 < n)

abbrev pub number_of : Step → List ℕ
number_of (push h x) = x ∷ []
number_of (pop h) = []
number_of (steal h) = []

-- The numbers that were pushed.
abbrev pub pushed : List Step → List ℕ
pushed [] = []
pushed (step ∷ earlier) = number_of step ++ pushed earlier

-- Tickets are dealt round robin: number x is pushed by worker `x mod n`.
abbrev pub IsDealtRound : ℕ → Step → Type 0
IsDealtRound n (push h x) = x % n ≡ h
IsDealtRound n (pop h) = Unit {0}
IsDealtRound n (steal h) = Unit {0}

-- How many numbers below n pass the test. If a list has each number below n once and no others, this many of its members pass.
abbrev pub count_below : (ℕ → Bool) → ℕ → ℕ
count_below test zero = 0
count_below test (suc n) = count_below test n + cond (test n) 1 0
