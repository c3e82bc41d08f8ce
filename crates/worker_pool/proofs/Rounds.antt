-- What the queues are after a round.
use Rattle.std.proofs.Common.{◌≡◌, ℕ, ◌<◌, List, [], ◌∷◌, length, get_or, Option, Some, None, IsSome, sym, ◌∙◌, subst, arith, rules}
use Rattle.crossbeam_deque.specs.Handles.{worker_deque, worker_view}
use Rattle.worker_pool.specs.declared.queue.Next.{Next}
use Rattle.worker_pool.specs.declared.queue.LocalQueue.{LocalQueue}
use Rattle.worker_pool.specs.inside.Queues.{SameNext, SameQueue}
use Rattle.worker_pool.specs.declared.active.ActiveWorker.{ActiveWorker}
use Rattle.worker_pool.specs.inside.ActiveWorkers.{WorkedAt}
use Rattle.worker_pool.specs.inside.Ring.{next_of, Link, IsRing}
use Rattle.worker_pool.proofs.Rings.{next_of-within}

pub pick : {A : Type 0} (xs : List A) (k : ℕ) → k < length xs → A
pick [] k within = absurd (omega arith)
pick (x ∷ xs) k within = x

module _ {J A S T : Type 0} (setup : J → T) (limit : T → ℕ) (answers : T → ℕ → A → Type 0) (s t : ActiveWorker J A S) where
  some_there : (d : LocalQueue) (p : Option LocalQueue) → WorkedAt setup limit answers s t (Some d) p → IsSome p
  some_there d None worked = absurd worked
  some_there d (Some e) worked = search rules

  -- an active worker that had a queue still has one
  pub some_from_worked : (o p : Option LocalQueue) (d : LocalQueue) → o ≡ Some d → WorkedAt setup limit answers s t o p → IsSome p
  some_from_worked o p d is worked = some_there d p (subst (λ (x : Option LocalQueue). WorkedAt setup limit answers s t x p) is worked)

link_same : (n m : Option Next) (e f : LocalQueue) → SameNext n m → worker_deque f.own ≡ worker_deque e.own
    → (worker_view f.own).steal_right ≡ (worker_view e.own).steal_right → Link n e → Link m f
link_same None m e f same deque right link = subst (λ (x : Option Next). Link x f) (sym same) (omega arith)
link_same (Some n) None e f same deque right link = absurd same
link_same (Some n) (Some m) e f same deque right link = same.0 ∙ (link ∙ sym deque)

pub ring_same : (ds es : List LocalQueue) → length es ≡ length ds → ((k : ℕ) (d : LocalQueue) → k < length ds → SameQueue (get_or ds k d) (get_or es k d)) → IsRing ds
    → IsRing es
ring_same ds es len same ring k d within =
    let n = length ds in
    let in_k : k < n = omega arith in
    let s = same k d in_k in
    let t = same (next_of n k) d (next_of-within n k in_k) in
    subst (λ (m : ℕ). Link (get_or es k d).next (get_or es (next_of m k) d)) (sym len)
    (link_same (get_or ds k d).next (get_or es k d).next (get_or ds (next_of n k) d) (get_or es (next_of n k) d) s.next t.deque t.right (ring k d in_k))
