use Rattle.std.proofs.Common.{◌≡◌, ◌∙◌, ℕ, ◌<◌, ◌%◌, List, length, count_by, get_or, ap, arith}
use Rattle.std.proofs.lemmas.List.Elements.{All-same}
use Rattle.crossbeam_deque.specs.Handles.{worker_view}
use Rattle.worker_pool.specs.declared.queue.LocalQueue.{LocalQueue}
use Rattle.worker_pool.specs.inside.Ring.{AreDealtRound, DealtRound, PushedOnce, SamePushed, pushed_by}
use Rattle.worker_pool.proofs.Places.{sums_by_place}
use Rattle.worker_pool.proofs.buffers.linked_queues.Goals as goal

still_once : (firsts lasts : List LocalQueue) (count : ℕ) → length lasts ≡ length firsts → SamePushed firsts lasts
    → PushedOnce count firsts → PushedOnce count lasts
still_once firsts lasts count len same once test =
    sums_by_place (pushed_by test) lasts firsts len (λ k d lt. ap (count_by test) (same k d)) ∙ once test

still_round : (firsts lasts : List LocalQueue) (n most number : ℕ) → SamePushed firsts lasts
    → ((k : ℕ) (d : LocalQueue) → k < n → DealtRound n most number k (get_or firsts k d)) → AreDealtRound n lasts
still_round firsts lasts n most number same round k d lt =
    All-same (λ x. x % n ≡ k) (worker_view (get_or lasts k d).own).pushed (worker_view (get_or firsts k d).own).pushed (same k d) (round k d lt).dealt

pub returns : goal.returns
returns c =
    let firsts : List LocalQueue = c.in_ok-queues.queues.items in
    let lasts : List LocalQueue = c.link_all.new.queues.items in
    let dealt = c.in_ok-queues.ensures in
    let linked = c.in_ok-link_all.ensures in
    record {
      len = omega arith;
      ring = linked.ring;
      fresh = linked.fresh;
      round = still_round firsts lasts c.args.n _ c.args.count linked.pushed dealt.room;
      once = still_once firsts lasts c.args.count (omega arith) linked.pushed dealt.once;
    }
