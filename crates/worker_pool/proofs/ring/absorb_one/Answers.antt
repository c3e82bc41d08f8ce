use Rattle.std.proofs.Common.{ℕ, ◌<◌, ap, refl, length, vec_len, arith, ◌∙◌, sym}
use Rattle.std.proofs.lemmas.List.{get_or-set_other}
use Rattle.crossbeam_deque.specs.Handles.{worker_view}
use Rattle.worker_pool.specs.inside.Ring.{next_of}
use Rattle.worker_pool.specs.declared.rule.View.{View}
use Rattle.worker_pool.specs.declared.queue.LocalQueue.{LocalQueue}
use Rattle.worker_pool.proofs.Rings.{next_of-within, ring_absorbed, absorbed_stolen, same_at, kept_at_set}
use Rattle.worker_pool.proofs.ring.absorb_one.Goals as goal

pub returns-in-Some-clause-ring : goal.returns-in-Some-clause-ring
returns-in-Some-clause-ring c =
    let v = ap (λ (s : View). s.steal_right) c.take_in.ensures.view in
    ring_absorbed c.args.queues.now.items c.args.k c.args.next c.index_mut.result.now _ c.index_mut-in-Some.result.now c.take_in.new.self (omega arith)
    (c.requires.next ∙ ap (λ (n : ℕ). next_of n c.args.k) c.args.queues.now.ok.0)
    c.index_mut.ensures.value refl refl c.take-pass.ensures.after
    c.index_mut-in-Some.ensures.value c.take_in.ensures.same.0 c.take_in.ensures.same.2
    (let p = c.in-Some.pass.right in omega arith) c.requires.ring

pub returns-in-Some-clause-stolen : goal.returns-in-Some-clause-stolen
returns-in-Some-clause-stolen c = λ test d.
    let in_k : c.args.k < length c.args.queues.now.items = omega arith in
    let in_next : c.args.next < length c.args.queues.now.items = omega (
      arith,
      c.requires.next,
      next_of-within (vec_len c.args.queues.now) c.args.k c.requires.within,
    ) in
    absorbed_stolen test c.args.queues.now.items c.args.k c.args.next c.index_mut.result.now _ c.take_in.new.self c.in-Some.pass d in_k in_next
    c.index_mut.ensures.value (sym c.take-pass.ensures.value ∙ c.in-Some.is) (ap (λ (s : View). s.stolen) c.take_in.ensures.view)

pub returns-in-Some-clause-still : goal.returns-in-Some-clause-still
returns-in-Some-clause-still c = λ j d ne.
    ap (λ (x : LocalQueue). (worker_view x.own).stolen) (get_or-set_other _ c.args.next j c.take_in.new.self d ne)
    ∙ kept_at_set (λ (x : LocalQueue). (worker_view x.own).stolen) c.args.queues.now.items c.args.k j _ d c.index_mut.result.now
    (ap (λ (x : LocalQueue). (worker_view x.own).stolen) c.index_mut.ensures.value)

pub returns-in-Some-clause-each : goal.returns-in-Some-clause-each
returns-in-Some-clause-each c = λ j d. record {
  pushed = same_at (λ (x : LocalQueue). (worker_view x.own).pushed) c.args.queues.now.items c.args.k c.args.next c.index_mut.result.now _
      c.index_mut-in-Some.result.now c.take_in.new.self c.index_mut.ensures.value refl c.index_mut-in-Some.ensures.value
      (ap (λ (s : View). s.pushed) c.take_in.ensures.view) j d;
  popped = same_at (λ (x : LocalQueue). (worker_view x.own).popped) c.args.queues.now.items c.args.k c.args.next c.index_mut.result.now _
      c.index_mut-in-Some.result.now c.take_in.new.self c.index_mut.ensures.value refl c.index_mut-in-Some.ensures.value
      (ap (λ (s : View). s.popped) c.take_in.ensures.view) j d;
  kept = same_at (λ (x : LocalQueue). x.kept) c.args.queues.now.items c.args.k c.args.next c.index_mut.result.now _ c.index_mut-in-Some.result.now c.take_in.new.self
      c.index_mut.ensures.value refl c.index_mut-in-Some.ensures.value c.take_in.ensures.same.1 j d;
}
