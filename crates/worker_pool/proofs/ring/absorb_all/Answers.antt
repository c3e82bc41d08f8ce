use Rattle.std.proofs.Common.{◌≡◌, ◌≢◌, ◌∙◌, ℕ, ◌<◌, ◌+◌, Bool, count_by, None, List, get_or, sym, ap, subst, arith}
use mathlib.Core.Logic.{dite}
use native.Mathlib.Decide.{ℕ_discrete}
use Rattle.crossbeam_deque.specs.Handles.{worker_view}
use Rattle.worker_pool.specs.declared.queue.LocalQueue.{LocalQueue}
use Rattle.worker_pool.specs.inside.Ring.{next_of, KnowsStolen, KnowStolen, SameNextBut, SameOwn}
use Rattle.worker_pool.proofs.Rings.{next_of-apart, ring_whole, stolen_along}
use Rattle.worker_pool.proofs.ring.absorb_all.Goals as goal

SameOwn-trans : (d e f : LocalQueue) → SameOwn d e → SameOwn e f → SameOwn d f
SameOwn-trans d e f same then =
    record { pushed = then.pushed ∙ same.pushed; popped = then.popped ∙ same.popped; kept = then.kept ∙ same.kept }

none_next : (ds es : List LocalQueue) (k : ℕ) → ((j : ℕ) (d : LocalQueue) → j < k → (get_or ds j d).next ≡ None)
    → SameNextBut k ds es → ((d : LocalQueue) → (get_or es k d).next ≡ None)
    → (j : ℕ) (d : LocalQueue) → j < k + 1 → (get_or es j d).next ≡ None
none_next ds es k was others here j d lt = dite (ℕ_discrete j k)
    (λ (e : j ≡ k). subst (λ (i : ℕ). (get_or es i d).next ≡ None) (sym e) (here d))
    (λ (ne : j ≢ k). others j d ne ∙ was j d (omega arith))

-- what was stolen up to queue k, once its pass is taken in
stolen_next : (n : ℕ) (init ds es : List LocalQueue) (k next : ℕ) → next ≡ next_of n k → k < n → KnowStolen n k init ds
    → ((d : LocalQueue) → (get_or ds k d).next ≡ (get_or init k d).next) → ((d : LocalQueue)
    → (worker_view (get_or ds next d).own).stolen ≡ (worker_view (get_or init next d).own).stolen)
    → ((j : ℕ) (d : LocalQueue) → j ≢ next → (worker_view (get_or es j d).own).stolen ≡ (worker_view (get_or ds j d).own).stolen)
    → ((test : ℕ → Bool) (d : LocalQueue) → KnowsStolen test ds es k next d)
    → KnowStolen n (k + 1) init es
stolen_next n init ds es k next is in_k was same same' still now test j d lt = dite (ℕ_discrete j k)
    (λ (e : j ≡ k).
    let here : KnowsStolen test init es k next d =
    now test d ∙ stolen_along test (get_or init k d).next (get_or ds k d).next (get_or init next d) (get_or ds next d) (same d) (same' d) in
    let at_k : KnowsStolen test init es k (next_of n k) d = subst (λ (i : ℕ). KnowsStolen test init es k i d) is here in
    subst (λ (i : ℕ). KnowsStolen test init es i (next_of n i) d) (sym e) at_k)
    (λ (ne : j ≢ k).
    let apart : next_of n j ≢ next = (λ e. next_of-apart n j k (omega arith) in_k ne (e ∙ is)) in
    ap (count_by test) (still (next_of n j) d apart) ∙ was test j d (omega arith))

stolen_here : (ds init : List LocalQueue) (next i : ℕ) (d : LocalQueue) → next ≡ i
    → (worker_view (get_or ds i d).own).stolen ≡ (worker_view (get_or init i d).own).stolen
    → (worker_view (get_or ds next d).own).stolen ≡ (worker_view (get_or init next d).own).stolen
stolen_here ds init next i d is same =
    subst (λ (m : ℕ). (worker_view (get_or ds m d).own).stolen ≡ (worker_view (get_or init m d).own).stolen) (sym is) same

pub loop-k-preserved : goal.loop-k-preserved
loop-k-preserved c =
    let was = c.loop-k.invariant in
    let now = c.absorb_one.ensures in
    let n = c.len-n.result in
    let k = c.loop-k.k in
    let next = c.place_after.result in
    let init : List LocalQueue = c.args.queues.now.items in
    let ds : List LocalQueue = c.loop-k.queues.items in
    let es : List LocalQueue = c.absorb_one.new.queues.items in
    record {
      len = omega arith;
      ring = now.ring;
      none = none_next ds es k was.none now.others now.none;
      later = λ j d le. (let ne : j ≢ c.loop-k.k = omega arith in now.others j d ne) ∙ was.later j d (omega arith);
      stolen = stolen_next n init ds es k next c.place_after.ensures (omega arith) was.stolen (λ d. was.later k d (omega arith))
          (λ d. stolen_here ds init next (next_of n k) d c.place_after.ensures (was.still k d (omega arith) (omega arith))) now.still now.stolen;
      still = λ j d le lt.
          (let apart : next_of c.len-n.result j ≢ c.place_after.result = (λ e.
          next_of-apart c.len-n.result j c.loop-k.k lt (omega arith) (omega arith) (e ∙ c.place_after.ensures)) in
          now.still (next_of c.len-n.result j) d apart)
          ∙ was.still j d (omega arith) lt;
      each = λ j d. SameOwn-trans _ _ _ (was.each j d) (now.each j d);
    }

pub returns-clause-whole : goal.returns-clause-whole
returns-clause-whole c = λ k d within.
    let was = c.loop-k.invariant in
    record {
      next = was.none k d (omega arith);
      right = ring_whole c.loop-k.queues.items was.ring (λ j e lt. was.none j e (omega arith)) k d within;
    }
