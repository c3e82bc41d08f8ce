use Rattle.std.proofs.Common.{◌≡◌, ◌+◌, List, [], ◌∷◌, ◌++◌, length, arith}
use Rattle.std.proofs.lemmas.List.{length_push}
use Rattle.worker_pool.specs.declared.active.ActiveWorker.{ActiveWorker}
use Rattle.worker_pool.proofs.Places.{pushed_image}
use Rattle.worker_pool.proofs.buffers.leave_all.Goals as goal

pub loop-active-preserved : goal.loop-active-preserved
loop-active-preserved g c =
    let was = c.loop-active.invariant in
    let now = c.leave_one.ensures in
    let active : ActiveWorker g.row.J.Denot g.row.J-Answer.Denot g.row.J-Setup.Denot = c.in-Some.active in
    let before : List (ActiveWorker g.row.J.Denot g.row.J-Answer.Denot g.row.J-Setup.Denot) = c.loop-active.yielded in
    let worker = λ (s : ActiveWorker g.row.J.Denot g.row.J-Answer.Denot g.row.J-Setup.Denot). s.worker in
    let answers = λ (s : ActiveWorker g.row.J.Denot g.row.J-Answer.Denot g.row.J-Setup.Denot). s.answers in
    let more : length (before ++ active ∷ []) ≡ length before + 1 = length_push before active in
    record {
      workers = pushed_image worker before active c.loop-active.workers.items c.leave_one.new.workers.items was.workers now.worker;
      answers = pushed_image answers before active c.loop-active.answers.items c.leave_one.new.answers.items was.answers now.answers;
      many = (omega arith, omega arith);
      room = (omega arith, omega arith);
    }
