use Rattle.std.proofs.Common.{◌≡◌, [], map}
use Rattle.std.specs.List.{range_with_len}
use Rattle.plan_gen.specs.LoopRuns.{times_of}
use Rattle.plan_gen.proofs.looped.by_loop.Given as goal

abbrev pub invariant-loop-point : goal.invariant-loop-point
invariant-loop-point g l = record {
  setup : l.target ≡ l.fn.target;
  counted : l.counts.items ≡ map (λ p. times_of (g.T.Target.asks l.fn.target l.workload) g.T.Target.names l.seed l.max_hits [] p) (range_with_len 0 l.point);
}
