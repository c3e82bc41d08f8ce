use Rattle.std.proofs.Common.{◌≡◌, map}
use Rattle.ddmin_parallel.proofs.workers.parted.Given as goal

abbrev pub invariant-loop-probe : goal.invariant-loop-probe
invariant-loop-probe g l = record {
  probes : l.probes.items ≡ map (λ x. x.0) l.yielded;
  pairs : l.pairs.items ≡ map (λ x. x.1) l.yielded;
}
