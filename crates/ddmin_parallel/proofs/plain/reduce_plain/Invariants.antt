use Rattle.std.proofs.Common.{◌≡◌, ◌≤◌, length}
use Rattle.ddmin_parallel.specs.Ddmin.{ddmin2, ddmin, Fits, rank}
use Rattle.ddmin_parallel.proofs.plain.reduce_plain.Given as goal

abbrev pub invariant-loop-alloc : goal.invariant-loop-alloc
invariant-loop-alloc g l =
    let answers = g.P.Probe.answers in
    record {
      setup : answers l.probe ≡ answers l.fn.probe;
      told : ddmin2 (answers l.fn.probe) l.kept.items l.parts l.tests ≡ ddmin (answers l.fn.probe) l.fn.faults;
      fits : Fits l.kept.items l.parts;
      small : length l.kept.items ≤ 4096;
    }

abbrev pub decreases-loop-alloc : goal.decreases-loop-alloc
decreases-loop-alloc g l = rank l.kept.items l.parts
