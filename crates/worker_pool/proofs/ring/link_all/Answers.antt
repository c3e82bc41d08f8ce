use Rattle.std.proofs.Common.{◌≡◌, ◌≢◌, ◌∙◌, ◌+◌, ◌<◌, ℕ, List, Option, IsSome, slice_index_or, sym, subst, arith}
use mathlib.Core.Logic.{dite}
use native.Mathlib.Decide.{ℕ_discrete}
use Rattle.worker_pool.specs.declared.queue.Next.{Next}
use Rattle.worker_pool.specs.declared.queue.LocalQueue.{LocalQueue}
use Rattle.worker_pool.specs.inside.Ring.{SameNextBut}
use Rattle.worker_pool.proofs.ring.link_all.Goals as goal

linked_next : (ds es : List LocalQueue) (k : ℕ) → ((j : ℕ) (d : LocalQueue) → j < k → IsSome (slice_index_or ds j d).next)
    → SameNextBut k ds es → ((d : LocalQueue) → IsSome (slice_index_or es k d).next)
    → (j : ℕ) (d : LocalQueue) → j < k + 1 → IsSome (slice_index_or es j d).next
linked_next ds es k was others here j d lt = dite (ℕ_discrete j k)
    (λ (e : j ≡ k). subst (λ (i : ℕ). IsSome (slice_index_or es i d).next) (sym e) (here d))
    (λ (ne : j ≢ k). subst (λ (o : Option Next). IsSome o) (sym (others j d ne)) (was j d (omega arith)))

pub loop-k-preserved : goal.loop-k-preserved
loop-k-preserved c =
    let was = c.loop-k.invariant in
    let now = c.in_ok-link_one.ensures in
    record {
      len = omega arith;
      ring = now.ring;
      none = λ j d ge lt. (let ne : j ≢ c.loop-k.k = omega arith in now.others j d ne) ∙ was.none j d (omega arith) lt;
      linked = linked_next c.loop-k.queues.items c.link_one.new.queues.items c.loop-k.k was.linked now.others now.here;
      fresh = now.fresh c.args.count was.fresh;
      pushed = λ j d. now.pushed j d ∙ was.pushed j d;
    }
