use Rattle.std.proofs.Common.{◌≡◌, ◌++◌, length}
use Rattle.grown_runs.specs.Grown.{subject_in}
use Rattle.grown_runs.specs.ranges.Ranges.{range_start}
use Rattle.grown_runs.specs.inside.Growths.{IsGrowth}
use Rattle.grown_runs.proofs.parts.run_part.Given as goal

abbrev pub invariant-loop-growth : goal.invariant-loop-growth
invariant-loop-growth g l = record {
  parts : l.yielded ++ l.growth-iterator.rest.items ≡ l.initial.growth-iterator.rest.items;
  grown :
      IsGrowth (subject_in g.T.Target l.on) l.on.limits.seed l.fn.part l.plans l.first
      (range_start l.count (length l.yielded)) l.whole;
}
