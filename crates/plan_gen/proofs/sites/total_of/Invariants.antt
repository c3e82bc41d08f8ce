use Rattle.std.proofs.Common.{◌≡◌, ◌+◌, ◌*◌, ◌^◌, ◌≤◌, drop}
use Rattle.plan_gen.specs.inside.Counts.{total_of}
use Rattle.plan_gen.proofs.sites.total_of.Given as goal

abbrev pub invariant-loop-count : goal.invariant-loop-count
invariant-loop-count l = record {
  few : l.total ≤ 2 ^ 32 * l.count-index;
  counted : l.total + total_of (drop l.count-index l.counts) ≡ total_of l.counts;
}
