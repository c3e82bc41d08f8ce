use Rattle.std.proofs.Common.{◌<◌, Option, length, vec_len, slice_index_or, sym, subst, arith}
use Rattle.worker_pool.specs.declared.worker.Worker.{Worker}
use Rattle.worker_pool.specs.declared.queue.LocalQueue.{LocalQueue}
use Rattle.worker_pool.specs.declared.active.ActiveWorker.{ActiveWorker}
use Rattle.worker_pool.specs.inside.Queues.{IsReady}
use Rattle.worker_pool.specs.inside.ActiveWorkers.{IsReadyAt}
use Rattle.worker_pool.proofs.Rounds.{pick, some_from_worked, ring_same}
use Rattle.worker_pool.proofs.Turns.{Worked-along, Worked-from}
use Rattle.worker_pool.proofs.run.round.Goals as goal

pub run_vec-requires-after_bounds : goal.run_vec-requires-after_bounds
run_vec-requires-after_bounds g c κs within = λ k s lt.
    let in_k : k < vec_len c.args.team.now = omega arith in
    let in_d : k < length c.args.queues.items = omega arith in
    let d : LocalQueue = pick c.args.queues.items k in_d in
    subst (λ (o : Option LocalQueue). IsReadyAt (g.J.Job.limit (g.J.Job.setup (slice_index_or c.lend.new.team.items k s).worker.job)) o)
    (sym (c.lend.ensures.lent k s d in_k))
    (subst (λ (h : Worker g.row.J.Denot g.row.J-Answer.Denot g.row.J-Setup.Denot).
    IsReady (g.J.Job.limit (g.J.Job.setup h.job)) (slice_index_or c.args.queues.items k d)) (sym (c.lend.ensures.same k s).0) (c.requires.ready k s d in_k))

pub take_back-requires-clause-lent : goal.take_back-requires-clause-lent
take_back-requires-clause-lent g c κs within = λ k s lt.
    let in_k : k < vec_len c.args.team.now = omega arith in
    let in_l : k < length c.lend.new.team.items = omega arith in
    let in_d : k < length c.args.queues.items = omega arith in
    let d : LocalQueue = pick c.args.queues.items k in_d in
    some_from_worked g.J.Job.setup g.J.Job.limit g.J.Job.answers _ _ _ _ _ (c.lend.ensures.lent k s d in_k) (c.run_vec.ensures.worked k s in_l)

pub returns-clause-worked : goal.returns-clause-worked
returns-clause-worked g c = λ k s d lt.
    let in_l : k < length c.lend.new.team.items = omega arith in
    let in_r : k < vec_len c.run_vec.new.team = omega arith in
    let lent = (c.lend.ensures.same k s) in
    Worked-along g.J.Job.setup g.J.Job.limit g.J.Job.answers (slice_index_or c.lend.new.team.items k s)
    (slice_index_or c.run_vec.new.team.items k s) _ _ _ _ (sym lent.0, sym lent.1) (c.take_back.ensures.same k s)
    (Worked-from g.J.Job.setup g.J.Job.limit g.J.Job.answers _ _ _ _ _ _ (c.lend.ensures.lent k s d lt) (c.take_back.ensures.back k s d in_r)
    (c.run_vec.ensures.worked k s in_l))

pub returns-clause-ring : goal.returns-clause-ring
returns-clause-ring g c =
    ring_same c.args.queues.items c.take_back.result.items (omega arith)
    (λ k d lt.
    let in_k : k < vec_len c.args.team.now = omega arith in
    let in_l : k < length c.lend.new.team.items = omega arith in
    let in_r : k < vec_len c.run_vec.new.team = omega arith in
    let in_h : k < length c.args.team.now.items = omega arith in
    let s : ActiveWorker g.row.J.Denot g.row.J-Answer.Denot g.row.J-Setup.Denot = pick c.args.team.now.items k in_h in
    (Worked-from g.J.Job.setup g.J.Job.limit g.J.Job.answers _ _ _ _ _ _ (c.lend.ensures.lent k s d in_k) (c.take_back.ensures.back k s d in_r)
    (c.run_vec.ensures.worked k s in_l)).same)
    c.requires.ring
