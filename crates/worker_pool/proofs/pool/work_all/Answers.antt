use Rattle.std.proofs.Common.{◌≡◌, ◌∙◌, ℕ, ◌<◌, All, Result, Ok, Err, OnOk, Option, List, IfSome, length, vec_len, slice_index_or, sym, subst, arith}
use Rattle.std.proofs.lemmas.List.Elements.{All-same}
use Rattle.crossbeam_deque.specs.Handles.{worker_view}
use Rattle.worker_pool.specs.declared.queue.LocalQueue.{LocalQueue}
use Rattle.worker_pool.specs.declared.active.ActiveWorker.{ActiveWorker}
use Rattle.worker_pool.specs.inside.Queues.{KeptBelow}
use Rattle.worker_pool.specs.inside.Ring.{IsDone, KnowStolen}
use Rattle.worker_pool.proofs.Rounds.{pick}
use Rattle.worker_pool.proofs.Turns.{GoesOn-trans}
use Rattle.worker_pool.proofs.Joined.{part_shared, all_shared}
use Rattle.worker_pool.proofs.pool.work_all.Goals as goal

pub round-back-requires-clause-ready : goal.round-back-requires-clause-ready
round-back-requires-clause-ready g c κs within = λ k s d lt. (let fresh = c.requires.begun.fresh k s d lt in (fresh.below, fresh.kept))

pub finish_all-finished-requires-clause-left : goal.finish_all-finished-requires-clause-left
finish_all-finished-requires-clause-left g c κs within = λ k s d lt.
    let in_k : k < vec_len c.args.team.now = omega arith in
    let in_a : k < length c.absorb_all.new.queues.items = omega arith in
    let limit = g.J.Job.limit in
    let setup = g.J.Job.setup in
    let fresh = (c.requires.begun.fresh k s d in_k).below.0 in
    let worked = c.round-back.ensures.worked k s d in_k in
    let own = c.absorb_all.ensures.each k d in
    let now = sym worked.on.stays in
    record {
      taken_in = c.absorb_all.ensures.whole k d in_a;
      below = subst (λ (t : g.row.J-Setup.Denot). All (λ x. x < limit t) (worker_view (slice_index_or c.absorb_all.new.queues.items k d).own).pushed) now
          (All-same (λ x. x < limit (setup (slice_index_or c.args.team.now.items k s).worker.job)) _ _ (own.pushed ∙ worked.same.pushed) fresh);
      kept = subst (λ (o : Option ℕ). IfSome o (λ x. x < limit (setup (slice_index_or c.round-back.new.team.items k s).worker.job))) (sym own.kept)
          (subst (λ (t : g.row.J-Setup.Denot). KeptBelow (limit t) (slice_index_or c.round-back.result.items k d)) now worked.kept);
    }

pub settle_all-requires : goal.settle_all-requires
settle_all-requires g c = λ k d lt.
    let in_s : k < length c.args.team.now.items = omega arith in
    let in_w : k < vec_len c.round-back.new.team = omega arith in
    let s : ActiveWorker g.row.J.Denot g.row.J-Answer.Denot g.row.J-Setup.Denot = pick c.args.team.now.items k in_s in
    (c.finish_all-finished.ensures.finishes k s d in_w).taken_in

pub returns-clause-on : goal.returns-clause-on
returns-clause-on g c = λ k s lt.
    let in_d : k < length c.args.queues.items = omega arith in
    let in_w : k < vec_len c.round-back.new.team = omega arith in
    let d : LocalQueue = pick c.args.queues.items k in_d in
    GoesOn-trans g.J.Job.setup g.J.Job.limit g.J.Job.answers _ _ _ (c.round-back.ensures.worked k s d lt).on
    (c.finish_all-finished.ensures.finishes k s d in_w).on

on_ok : {X Y : Type 0} (r : Result X Y) (P Q : Type 0) → (P → Q) → OnOk r P → OnOk r Q
on_ok (Ok x) P Q f p = f p
on_ok (Err e) P Q f p = tt

-- the same at another name of the length
stolen_len : (back absorbed : List LocalQueue) (m n : ℕ) → m ≡ n → KnowStolen m m back absorbed → KnowStolen n n back absorbed
stolen_len back absorbed m n same = subst (λ (i : ℕ). KnowStolen i i back absorbed) same

pub returns-clause-part : goal.returns-clause-part
returns-clause-part g c =
    let back : List LocalQueue = c.round-back.result.items in
    let absorbed : List LocalQueue = c.absorb_all.new.queues.items in
    part_shared g.J.Job.setup g.J.Job.limit g.J.Job.answers (vec_len c.args.team.now) c.requires.begun.some
    c.args.team.now.items c.round-back.new.team.items c.finish_all-finished.new.team.items
    c.args.queues.items back absorbed c.finish_all-finished.new.queues.items
    (omega arith) (omega arith) (omega arith) (omega arith) (omega arith)
    c.requires.begun.fresh c.requires.begun.rest c.requires.begun.round c.round-back.ensures.worked c.absorb_all.ensures.whole
    (stolen_len back absorbed _ _ (omega arith) c.absorb_all.ensures.stolen) c.absorb_all.ensures.each
    (λ k s d lt. c.finish_all-finished.ensures.finishes k s d (let low : k < vec_len c.round-back.new.team = omega arith in low)) c.settle_all.ensures

pub returns-clause-all : goal.returns-clause-all
returns-clause-all g c =
    let back : List LocalQueue = c.round-back.result.items in
    let absorbed : List LocalQueue = c.absorb_all.new.queues.items in
    let ends : List LocalQueue = c.finish_all-finished.new.queues.items in
    on_ok c.finish_all-finished.result (All IsDone ends) _
    (λ done. all_shared g.J.Job.setup g.J.Job.limit g.J.Job.answers (vec_len c.args.team.now) c.requires.begun.some
    c.args.team.now.items c.round-back.new.team.items c.finish_all-finished.new.team.items c.args.queues.items back absorbed ends
    (omega arith) (omega arith) (omega arith) (omega arith) (omega arith)
    c.requires.begun.fresh c.requires.begun.rest c.requires.begun.round c.round-back.ensures.worked c.absorb_all.ensures.whole
    (stolen_len back absorbed _ _ (omega arith) c.absorb_all.ensures.stolen) c.absorb_all.ensures.each
    (λ k s d lt. c.finish_all-finished.ensures.finishes k s d (let low : k < vec_len c.round-back.new.team = omega arith in low)) c.settle_all.ensures
    (λ k d lt. done k d (let low : k < length ends = omega arith in low)))
    c.finish_all-finished.ensures.done
