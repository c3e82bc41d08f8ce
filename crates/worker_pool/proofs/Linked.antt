-- A queue stays fresh when its thief's pass is made, and when it gets a pass.
use Rattle.std.proofs.Common.{◌≡◌, ℕ, ◌<◌, ◌≤◌, List, [], All, Option, Some, None, count_by, sym, subst, ap, ◌∙◌, arith}
use Rattle.std.proofs.lemmas.List.Elements.{All-same, All-weaker}
use Rattle.crossbeam_deque.specs.Handles.{view, worker_view}
use Rattle.worker_pool.specs.declared.rule.View.{View}
use Rattle.worker_pool.specs.declared.queue.Next.{Next}
use Rattle.worker_pool.specs.declared.queue.LocalQueue.{LocalQueue}
use Rattle.worker_pool.specs.inside.Parts.{view_of}
use Rattle.worker_pool.specs.inside.Queues.{taken_next, NextBelow}
use Rattle.worker_pool.specs.inside.Ring.{Fresh}

pub fresh_shared : (count : ℕ) (old mid : LocalQueue) → worker_view mid.own ≡ view_of (worker_view old.own).pop_right 0 (worker_view old.own).pushed
    (worker_view old.own).popped [] → mid.next ≡ old.next → mid.kept ≡ old.kept → Fresh count old → Fresh count mid
fresh_shared count old mid own next kept was = record {
  below = (
    All-same (λ x. x < count) (worker_view mid.own).pushed (worker_view old.own).pushed (ap (λ (v : View). v.pushed) own) was.below.0,
    subst (NextBelow count) (sym next) was.below.1,
  );
  kept = kept ∙ was.kept;
  took_none = λ test. omega (arith, ap (λ (v : View). count_by test v.popped) own, ap (taken_next test) next, was.took_none test);
  stolen = ap (λ (v : View). v.stolen) own;
}

pub fresh_linked : (count : ℕ) (there new : LocalQueue) (n : Next) (pushed stolen : List ℕ) → worker_view new.own ≡ worker_view there.own → new.next ≡ Some n
    → new.kept ≡ there.kept
    → (right : ℕ) → view n.pass ≡ view_of 0 right pushed [] stolen → stolen ≡ [] → All (λ x. x < count) pushed → Fresh count there → Fresh count new
fresh_linked count there new n pushed stolen own next kept right begun none below was = record {
  below = (
    All-same (λ x. x < count) (worker_view new.own).pushed (worker_view there.own).pushed (ap (λ (v : View). v.pushed) own) was.below.0,
    subst (NextBelow count) (sym next) (All-same (λ x. x < count) (view n.pass).pushed pushed (ap (λ (v : View). v.pushed) begun) below),
  );
  kept = kept ∙ was.kept;
  took_none = λ test. omega (
    arith,
    ap (λ (v : View). count_by test v.popped) own,
    ap (taken_next test) next,
    ap (λ (v : View). count_by test v.stolen) begun,
    ap (count_by test) none,
    was.took_none test,
  );
  stolen = ap (λ (v : View). v.stolen) own ∙ was.stolen;
}

NextBelow-weaker : (count limit : ℕ) (n : Option Next) → count ≤ limit → NextBelow count n → NextBelow limit n
NextBelow-weaker count limit None le below = tt
NextBelow-weaker count limit (Some n) le below = All-weaker (λ x. x < count) (λ x. x < limit) (λ x lt. omega arith) (view n.pass).pushed below

pub Fresh-weaker : (count limit : ℕ) (d : LocalQueue) → count ≤ limit → Fresh count d → Fresh limit d
Fresh-weaker count limit d le was = record {
  below = (
    All-weaker (λ x. x < count) (λ x. x < limit) (λ x lt. omega arith) (worker_view d.own).pushed was.below.0,
    NextBelow-weaker count limit d.next le was.below.1,
  );
  kept = was.kept;
  took_none = was.took_none;
  stolen = was.stolen;
}
