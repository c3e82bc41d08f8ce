use Rattle.std.proofs.Common.{◌≡◌, ◌++◌, drop}
use Rattle.plan_gen.specs.Census.{sites_from, sites_of}
use Rattle.plan_gen.proofs.sites.sites_of.Given as goal

abbrev pub invariant-loop-count : goal.invariant-loop-count
invariant-loop-count l = record {
  number : l.point ≡ l.count-index;
  built : l.sites.items ++ sites_from l.point (drop l.count-index l.counts) ≡ sites_of l.counts;
}
