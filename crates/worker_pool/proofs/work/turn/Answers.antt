use Rattle.std.proofs.Common.{◌<◌, ℕ, [], ◌∷◌, count_by, sym, ap, subst, refl, arith}
use Rattle.worker_pool.specs.declared.worker.Worker.{Worker}
use Rattle.worker_pool.proofs.Same.{none_kept}
use Rattle.worker_pool.proofs.Turns.{GoesOn-along}
use Rattle.worker_pool.proofs.work.turn.Goals as goal

pub perform-requires-clause-limit : goal.perform-requires-clause-limit
perform-requires-clause-limit g c κs within =
    subst (λ (h : Worker g.row.J.Denot g.row.J-Answer.Denot g.row.J-Setup.Denot). c.in-Some.ticket < g.J.Job.limit (g.J.Job.setup h.job))
    (sym c.make_room.ensures.same.0.0) (c.in-Some.ensures.below _ c.requires.0)

pub returns-in-Err-clause-worked : goal.returns-in-Err-clause-worked
returns-in-Err-clause-worked g c =
    let found = c.find.ensures.same.0 in
    let back = c.in-Err.ensures.refused in
    record {
      on = GoesOn-along g.J.Job.setup g.J.Job.limit g.J.Job.answers c.make_room.new.self c.perform.new.self _ _ (
        sym c.make_room.ensures.same.0.0,
        sym c.make_room.ensures.same.0.1,
      ) (refl, refl) c.perform.ensures.on;
      once = λ test. omega (
        arith,
        c.in-Some.ensures.some test,
        none_kept test _ c.requires.1,
        ap (λ (n : ℕ). count_by test (n ∷ [])) back.0,
        ap (count_by (λ p. test p.0)) back.1,
        ap (count_by (λ p. test p.0)) c.make_room.ensures.same.0.1,
      );
      same = record { deque = found.deque; right = found.right; pushed = found.pushed; stolen = found.stolen; next = found.next };
      kept = subst (λ (n : ℕ). n < g.J.Job.limit (g.J.Job.setup c.args.active.now.worker.job)) (sym back.0) (c.in-Some.ensures.below _ c.requires.0);
    }
