use Rattle.std.proofs.Common.{sym, subst}
use Rattle.worker_pool.specs.inside.Queues.{Below}
use Rattle.worker_pool.proofs.Same.{Below-same}
use Rattle.worker_pool.proofs.Turns.{Worked-trans}
use Rattle.worker_pool.proofs.work.work_at.Goals as goal
use Rattle.worker_pool.proofs.work.work_at.Goals.{in-None, in-Some+then-not-turn}

pub loop-preserved : goal.loop-preserved
loop-preserved g c =
    let was = c.loop.invariant in
    let now = c.turn.ensures in
    record {
      worked = Worked-trans g.J.Job.setup g.J.Job.limit g.J.Job.answers _ _ _ _ _ _ was.worked now.worked;
      ready = (
        subst (λ (s : g.row.J-Setup.Denot). Below (g.J.Job.limit s) c.turn.new.queue) (sym now.worked.on.stays) (Below-same _ _ _ now.worked.same was.ready.0),
        now.going c.if-not-turn.false,
      );
    }

pub returns : goal.returns
returns g c =
    elim c.match-next.branch [
      | in-None w ↦ rw (w.active-is, w.queue-is) c.loop.invariant.worked
      | in-Some+then-not-turn w ↦ rw (w.active-is, w.queue-is)
          (Worked-trans g.J.Job.setup g.J.Job.limit g.J.Job.answers _ _ _ _ _ _ c.loop.invariant.worked w.turn.ensures.worked)
    ]
