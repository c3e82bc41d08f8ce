use Rattle.std.proofs.Common.{◌≡◌, ◌+◌, List, [], ◌∷◌, ◌++◌, length, arith}
use Rattle.std.proofs.lemmas.List.{length_push}
use Rattle.std.proofs.lemmas.List.Elements.{All-same, All-push}
use Rattle.worker_pool.specs.declared.worker.Worker.{Worker}
use Rattle.worker_pool.specs.declared.active.ActiveWorker.{ActiveWorker}
use Rattle.worker_pool.proofs.Places.{image_pushed}
use Rattle.worker_pool.proofs.buffers.begin_all.Goals as goal

pub loop-worker-preserved : goal.loop-worker-preserved
loop-worker-preserved g c =
    let was = c.loop-worker.invariant in
    let now = c.push_reserved.ensures in
    let old : List (ActiveWorker g.row.J.Denot g.row.J-Answer.Denot g.row.J-Setup.Denot) = c.loop-worker.team.items in
    let all : List (ActiveWorker g.row.J.Denot g.row.J-Answer.Denot g.row.J-Setup.Denot) = c.push_reserved.new.self.items in
    let active : ActiveWorker g.row.J.Denot g.row.J-Answer.Denot g.row.J-Setup.Denot = c.new.result in
    let before : List (Worker g.row.J.Denot g.row.J-Answer.Denot g.row.J-Setup.Denot) = c.loop-worker.yielded in
    let Rest = λ (s : ActiveWorker g.row.J.Denot g.row.J-Answer.Denot g.row.J-Setup.Denot). s.answers.items ≡ [] in
    let worker = λ (s : ActiveWorker g.row.J.Denot g.row.J-Answer.Denot g.row.J-Setup.Denot). s.worker in
    let more : length (before ++ c.in-Some.worker ∷ []) ≡ length before + 1 = length_push before c.in-Some.worker in
    record {
      workers = image_pushed worker old all active before c.in-Some.worker was.workers now.items c.new.ensures.worker;
      rest = All-same Rest all (old ++ active ∷ []) now.items (All-push Rest old active was.rest c.new.ensures.rest.0);
      many = omega arith;
      room = omega arith;
    }
