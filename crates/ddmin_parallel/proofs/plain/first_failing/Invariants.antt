use Rattle.std.proofs.Common.{◌≡◌}
use Rattle.ddmin_parallel.specs.Ddmin.{decide}
use Rattle.ddmin_parallel.specs.Rounds.{round}
use Rattle.ddmin_parallel.specs.inside.Candidates.{candidates}
use Rattle.ddmin_parallel.proofs.Steps.{from}
use Rattle.ddmin_parallel.proofs.plain.first_failing.Given as goal

abbrev pub invariant-loop-place : goal.invariant-loop-place
invariant-loop-place g l =
    let answers = g.P.Probe.answers in
    record {
      all : l.place-end ≡ candidates l.parts;
      setup : answers l.probe ≡ answers l.fn.probe;
      told : decide (answers l.fn.probe) (from l.kept l.parts l.place) l.tests ≡ decide (answers l.fn.probe) (round l.kept l.parts) l.fn.tests;
    }
