use Rattle.std.proofs.Common.{◌≡◌, ℕ, ◌+◌, ◌/◌, ◌<◌, List, [], ◌∷◌, ◌++◌, None, count_by, length, get_or, sym, ap, subst, arith}
use Rattle.std.specs.List.{sum_by}
use Rattle.std.proofs.lemmas.List.{length_push}
use Rattle.std.proofs.lemmas.List.Elements.{All-same, All-push, All-nil}
use Rattle.std.proofs.lemmas.List.Sums.{sum_by_push}
use Rattle.crossbeam_deque.specs.Handles.{worker_view}
use Rattle.worker_pool.specs.declared.rule.View.{View}
use Rattle.worker_pool.specs.declared.queue.LocalQueue.{LocalQueue}
use Rattle.worker_pool.specs.inside.Parts.{view_of}
use Rattle.worker_pool.specs.inside.Queues.{taken_next, NextBelow}
use Rattle.worker_pool.specs.inside.Ring.{Whole, pushed_by}
use Rattle.worker_pool.proofs.Dealing.{begins_round, HasRoom}
use Rattle.worker_pool.proofs.ring.empty_queues.Goals as goal

whole_new : (count : ℕ) (d : LocalQueue) → worker_view d.own ≡ view_of 1 1 [] [] [] → d.next ≡ None → d.kept ≡ None → Whole count d
whole_new count d view next kept = record {
  fresh = record {
    below = (
      All-same (λ x. x < count) (worker_view d.own).pushed [] (ap (λ (v : View). v.pushed) view) (All-nil (λ x. x < count)),
      subst (NextBelow count) (sym next) tt,
    );
    kept = kept;
    took_none = λ test. omega (arith, ap (λ (v : View). count_by test v.popped) view, ap (taken_next test) next);
    stolen = ap (λ (v : View). v.stolen) view;
  };
  next = next;
  right = (let e = ap (λ (v : View). v.steal_right) view in omega arith);
}

pub loop-made-preserved : goal.loop-made-preserved
loop-made-preserved c =
    let was = c.loop-made.invariant in
    let new = c.in_ok-queue.ensures in
    let old : List LocalQueue = c.loop-made.queues.items in
    let d : LocalQueue = c.in_ok-queue.queue in
    let items : c.push.new.self.items ≡ old ++ d ∷ [] = c.in_ok-push.ensures.items in
    let whole : Whole c.args.count d = whole_new c.args.count d new.view new.next new.kept in
    let more = length_push old d in
    let room = c.args.count / c.args.n + 1 in
    record {
      len = omega (arith, ap (λ (ds : List LocalQueue). length ds) items);
      whole = All-same (Whole c.args.count) c.push.new.self.items (old ++ d ∷ []) items (All-push (Whole c.args.count) old d was.whole whole);
      pushed = λ test. omega (
        arith,
        ap (sum_by (pushed_by test)) items,
        sum_by_push (pushed_by test) old d,
        was.pushed test,
        ap (λ (v : View). count_by test v.pushed) new.view,
      );
      room = All-same (HasRoom room) c.push.new.self.items (old ++ d ∷ []) items
          (All-push (HasRoom room) old d was.room (ap (λ (v : View). v.pushed) new.view, new.room.1, new.room.0));
    }

pub returns : goal.returns
returns c =
    let made = c.loop-made.invariant in
    let n = c.args.n in
    record {
      len = omega arith;
      whole = made.whole;
      once = made.pushed;
      room = λ j d lt. begins_round n (c.args.count / n + 1) j (get_or c.loop-made.queues.items j d) (omega arith) (made.room j d (omega arith));
    }
