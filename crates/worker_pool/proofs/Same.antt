-- A queue that is at the same deques.
use Rattle.std.proofs.Common.{◌≡◌, ℕ, ◌<◌, Bool, count_by, Option, Some, None, sym, subst, refl, ◌∙◌, option_to_list}
use Rattle.std.proofs.lemmas.List.Elements.{All-same}
use Rattle.worker_pool.specs.declared.queue.Next.{Next}
use Rattle.worker_pool.specs.declared.queue.LocalQueue.{LocalQueue}
use Rattle.crossbeam_deque.specs.Handles.{view, worker_view}
use Rattle.worker_pool.specs.inside.Queues.{SameNext, SameQueue, NextBelow, Below}

NextBelow-same : (count : ℕ) (n m : Option Next) → SameNext n m → NextBelow count n → NextBelow count m
NextBelow-same count None m same below = subst (NextBelow count) (sym same) tt
NextBelow-same count (Some n) None same below = absurd same
NextBelow-same count (Some n) (Some m) same below = All-same (λ x. x < count) (view m.pass).pushed (view n.pass).pushed same.1 below

pub Below-same : (count : ℕ) (d e : LocalQueue) → SameQueue d e → Below count d → Below count e
Below-same count d e same below = (
  All-same (λ x. x < count) (worker_view e.own).pushed (worker_view d.own).pushed same.pushed below.0,
  NextBelow-same count d.next e.next same.next below.1,
)

SameNext-trans : (n m o : Option Next) → SameNext n m → SameNext m o → SameNext n o
SameNext-trans None m o same then = subst (λ x. SameNext x o) same then
SameNext-trans (Some n) None o same then = absurd same
SameNext-trans (Some n) (Some m) None same then = absurd then
SameNext-trans (Some n) (Some m) (Some o) same then = (then.0 ∙ same.0, then.1 ∙ same.1)

pub SameQueue-trans : (d e f : LocalQueue) → SameQueue d e → SameQueue e f → SameQueue d f
SameQueue-trans d e f same then = record {
  deque = then.deque ∙ same.deque;
  right = then.right ∙ same.right;
  pushed = then.pushed ∙ same.pushed;
  stolen = then.stolen ∙ same.stolen;
  next = SameNext-trans d.next e.next f.next same.next then.next;
}

pub none_kept : (test : ℕ → Bool) (kept : Option ℕ) → kept ≡ None → count_by test (option_to_list kept) ≡ 0
none_kept test kept is = rw is refl
