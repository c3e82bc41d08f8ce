use Rattle.std.proofs.Common.{◌≡◌, ◌≤◌, []}
use Rattle.plan_gen.specs.LoopRuns.{times_of}
use Rattle.plan_gen.proofs.looped.count_by_loop.Given as goal

abbrev pub invariant-loop-met : goal.invariant-loop-met
invariant-loop-met g l = record {
  setup : l.target ≡ l.fn.target;
  met : l.met ≤ times_of (g.T.Target.asks l.fn.target l.workload) g.T.Target.names l.seed l.max_hits [] l.point;
}
