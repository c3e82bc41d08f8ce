use Rattle.std.proofs.Common.{◌<◌, List, length, vec_len, sym, ap, subst, arith}
use Rattle.std.proofs.lemmas.List.Elements.{All-set}
use Rattle.worker_pool.specs.declared.queue.LocalQueue.{LocalQueue}
use Rattle.worker_pool.specs.inside.Ring.{Whole}
use Rattle.worker_pool.proofs.Dealing.{has_room, dealt_all, whole_dealt, once_dealt}
use Rattle.worker_pool.proofs.ring.deal_one.Goals as goal

pub deal-requires-clause-alone : goal.deal-requires-clause-alone
deal-requires-clause-alone c =
    let within : c.args.k < length c.args.queues.now.items = omega arith in
    rw c.index_mut.ensures.value (c.requires.dealt.whole c.args.k c.index_mut.result.now within).right

pub deal-requires-clause-room : goal.deal-requires-clause-room
deal-requires-clause-room c =
    let some : 0 < vec_len c.args.queues.now = omega arith in
    let within : c.args.k < vec_len c.args.queues.now = omega arith in
    has_room c.args.ticket c.args.count c.args.k (vec_len c.args.queues.now) c.index_mut.result.now some c.requires.round c.requires.below
    (rw c.index_mut.ensures.value (c.requires.dealt.room c.args.k c.index_mut.result.now within))

pub returns : goal.returns
returns c =
    let was = c.requires.dealt in
    let ds : List LocalQueue = c.args.queues.now.items in
    let old : LocalQueue = c.index_mut.result.now in
    let new : LocalQueue = c.deal.new.self in
    let some : 0 < vec_len c.args.queues.now = omega arith in
    let in_len : c.args.k < vec_len c.args.queues.now = omega arith in
    let within : c.args.k < length ds = omega arith in
    let is = c.index_mut.ensures.value in
    let now = c.deal.ensures in
    let pushed = ap (λ v. v.pushed) now.view in
    let whole : Whole c.args.count old = subst (Whole c.args.count) (sym is) (was.whole c.args.k old within) in
    record {
      len = omega arith;
      whole = All-set (Whole c.args.count) ds c.args.k new (whole_dealt c.args.count c.args.ticket old new now.same now.view c.requires.below whole) was.whole;
      once = once_dealt c.args.ticket c.args.k ds old new is pushed within was.once;
      room = dealt_all _ c.args.ticket c.args.k (vec_len c.args.queues.now) ds old new some c.requires.round is now.room.0 now.room.1 pushed in_len was.room;
    }
