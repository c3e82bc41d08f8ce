use Rattle.std.proofs.Common.{◌≡◌}
use Rattle.ddmin_parallel.specs.Logs.{AreAnswers}
use Rattle.ddmin_parallel.proofs.workers.work.Given as goal

abbrev pub invariant-loop : goal.invariant-loop
invariant-loop g l =
    let answers = g.P.Probe.answers in
    record {
      setup : answers l.probe ≡ answers l.fn.probe;
      told : AreAnswers (answers l.fn.probe) l.told.items;
    }
