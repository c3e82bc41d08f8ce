use Rattle.std.proofs.Common.{◌≡◌}
use Rattle.ddmin_parallel.specs.Logs.{Tells}
use Rattle.ddmin_parallel.proofs.by_core.finish.Given as goal

abbrev pub invariant-loop : goal.invariant-loop
invariant-loop g l =
    let answers = g.P.Probe.answers in
    record {
      setup : answers l.probe ≡ answers l.fn.probe;
      tells : Tells l.fn.faults (answers l.fn.probe) l.core;
    }
