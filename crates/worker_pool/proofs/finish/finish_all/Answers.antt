use Rattle.std.proofs.Common.{◌≡◌, ◌≢◌, ◌∙◌, ℕ, ◌+◌, ◌<◌, List, vec_len, slice_index_or, sym, subst, arith}
use mathlib.Core.Logic.{dite}
use native.Mathlib.Decide.{ℕ_discrete}
use Rattle.worker_pool.specs.declared.queue.LocalQueue.{LocalQueue}
use Rattle.worker_pool.specs.declared.active.ActiveWorker.{ActiveWorker}
use Rattle.worker_pool.specs.inside.Ring.{IsDone}
use Rattle.worker_pool.specs.inside.ActiveWorkers.{IsLeft}
use Rattle.worker_pool.proofs.Turns.{finished_next, finished_all}
use Rattle.worker_pool.proofs.finish.finish_all.Goals as goal

done_next : (ds es : List LocalQueue) (k : ℕ) → ((j : ℕ) (d : LocalQueue) → j < k → IsDone (slice_index_or ds j d))
    → ((j : ℕ) (d : LocalQueue) → j ≢ k → slice_index_or es j d ≡ slice_index_or ds j d) → ((d : LocalQueue) → IsDone (slice_index_or es k d))
    → (j : ℕ) (d : LocalQueue) → j < k + 1 → IsDone (slice_index_or es j d)
done_next ds es k was still here j d lt = dite (ℕ_discrete j k)
    (λ (e : j ≡ k). subst (λ (i : ℕ). IsDone (slice_index_or es i d)) (sym e) (here d))
    (λ (ne : j ≢ k). subst IsDone (sym (still j d ne)) (was j d (omega arith)))

pub finish_at-requires-clause-left : goal.finish_at-requires-clause-left
finish_at-requires-clause-left g c κs within = λ s d.
    let was = c.loop-k.invariant in
    let limit = g.J.Job.limit in
    let setup = g.J.Job.setup in
    let k = c.loop-k.k in
    let in_k : k < vec_len c.args.team.now = omega arith in
    subst (λ (x : ActiveWorker g.row.J.Denot g.row.J-Answer.Denot g.row.J-Setup.Denot). IsLeft (limit (setup x.worker.job)) (slice_index_or c.loop-k.queues.items k d))
    (sym (was.others k s (omega arith)))
    (subst (λ (x : LocalQueue). IsLeft (limit (setup (slice_index_or c.args.team.now.items k s).worker.job)) x) (sym (was.still k d (omega arith)))
    (c.requires.left k s d in_k))

pub returns-in_err-finish_at-clause-finishes : goal.returns-in_err-finish_at-clause-finishes
returns-in_err-finish_at-clause-finishes g c = λ k s d lt.
    let was = c.loop-k.invariant in
    let now = c.in_err-finish_at.ensures in
    finished_all g.J.Job.setup g.J.Job.limit g.J.Job.answers
    c.args.team.now.items c.loop-k.team.items c.finish_at.new.team.items
    c.args.queues.now.items c.loop-k.queues.items c.finish_at.new.queues.items c.loop-k.k
    was.others was.still now.others now.still now.here was.finishes
    (vec_len c.args.team.now) (λ j e low. (c.requires.left j s e low).taken_in) k s d lt

pub loop-k-preserved : goal.loop-k-preserved
loop-k-preserved g c =
    let was = c.loop-k.invariant in
    let now = c.in_ok-finish_at.ensures in
    record {
      len = now.len.0 ∙ was.len;
      many = now.len.1 ∙ was.many;
      finishes = finished_next g.J.Job.setup g.J.Job.limit g.J.Job.answers
          c.args.team.now.items c.loop-k.team.items c.finish_at.new.team.items
          c.args.queues.now.items c.loop-k.queues.items c.finish_at.new.queues.items c.loop-k.k
          was.others was.still now.others now.still now.here was.finishes;
      others = λ j s le. (let ne : j ≢ c.loop-k.k = omega arith in now.others j s ne) ∙ was.others j s (omega arith);
      still = λ j d le. (let ne : j ≢ c.loop-k.k = omega arith in now.still j d ne) ∙ was.still j d (omega arith);
      done = done_next _ _ _ was.done now.still now.done;
    }
