use Rattle.std.proofs.Common.{ℕ, ◌<◌, List, ◌∙◌, sym, subst, ap, refl, set, length, vec_len, arith}
use Rattle.std.proofs.Math.ListN.{length-set}
use Rattle.std.proofs.lemmas.List.Elements.{All-set}
use Rattle.crossbeam_deque.specs.Handles.{worker_view}
use Rattle.worker_pool.specs.declared.queue.LocalQueue.{LocalQueue}
use Rattle.worker_pool.specs.inside.Ring.{next_of, Fresh}
use Rattle.worker_pool.specs.declared.rule.View.{View}
use Rattle.worker_pool.proofs.Rings.{next_of-within, ring_linked, same_at}
use Rattle.worker_pool.proofs.Linked.{fresh_shared, fresh_linked}
use Rattle.worker_pool.proofs.ring.link_one.Goals as goal

pub returns-clause-ring : goal.returns-clause-ring
returns-clause-ring c =
    ring_linked c.args.queues.now.items c.args.k c.args.next c.index_mut.result.now c.share.new.self c.index_mut-2.result.now _ c.in_ok-pass.pass (omega arith)
    (c.requires.next ∙ ap (λ (n : ℕ). next_of n c.args.k) c.args.queues.now.ok.0) c.index_mut.ensures.value c.in_ok-pass.ensures.same.0
    c.in_ok-pass.ensures.same.2
    c.index_mut-2.ensures.value refl refl refl c.in_ok-pass.ensures.from c.requires.ring

pub returns-clause-fresh : goal.returns-clause-fresh
returns-clause-fresh c = λ count all.
    let ds : List LocalQueue = c.args.queues.now.items in
    let old : LocalQueue = c.index_mut.result.now in
    let mid : LocalQueue = c.share.new.self in
    let there : LocalQueue = c.index_mut-2.result.now in
    let k_in : c.args.k < length ds = omega arith in
    let n_in : c.args.next < length ds = omega (arith, c.requires.next, next_of-within (vec_len c.args.queues.now) c.args.k c.requires.within) in
    let was : Fresh count old = subst (Fresh count) (sym c.index_mut.ensures.value) (all c.args.next old n_in) in
    let fresh_mid : Fresh count mid = fresh_shared count old mid c.in_ok-pass.ensures.own c.in_ok-pass.ensures.same.0 c.in_ok-pass.ensures.same.1 was in
    let all' = All-set (Fresh count) ds c.args.next mid fresh_mid all in
    let fresh_there : Fresh count there = subst (Fresh count) (sym c.index_mut-2.ensures.value)
    (all' c.args.k there (omega (arith, length-set ds c.args.next mid))) in
    All-set (Fresh count) (set ds c.args.next mid) c.args.k _ (fresh_linked count there _ c.in_ok-pass.pass (worker_view old.own).pushed
    (worker_view old.own).stolen refl refl refl _ c.in_ok-pass.ensures.next was.stolen was.below.0 fresh_there) all'

pub returns-clause-pushed : goal.returns-clause-pushed
returns-clause-pushed c =
    same_at (λ (x : LocalQueue). (worker_view x.own).pushed) c.args.queues.now.items c.args.next c.args.k c.index_mut.result.now c.share.new.self
    c.index_mut-2.result.now _
    c.index_mut.ensures.value (ap (λ (s : View). s.pushed) c.in_ok-pass.ensures.own) c.index_mut-2.ensures.value refl
