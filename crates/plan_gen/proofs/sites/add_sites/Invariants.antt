use Rattle.std.proofs.Common.{◌≡◌, ◌++◌}
use Rattle.plan_gen.specs.Census.{sites_at}
use Rattle.plan_gen.proofs.sites.add_sites.Given as goal

abbrev pub invariant-loop-done : goal.invariant-loop-done
invariant-loop-done l = l.sites.items ≡ l.initial.sites.items ++ sites_at l.point l.done
