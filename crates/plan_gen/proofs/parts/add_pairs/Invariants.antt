use Rattle.std.proofs.Common.{◌≡◌, ◌++◌, drop}
use Rattle.std.specs.List.{flat_map}
use Rattle.plan_gen.specs.PlanList.{pairs_of}
use Rattle.plan_gen.specs.inside.Drawn.{pair_sources}
use Rattle.plan_gen.proofs.parts.add_pairs.Given as goal

abbrev pub invariant-loop-i : goal.invariant-loop-i
invariant-loop-i l = l.sources.items ++ flat_map pair_sources (pairs_of (drop l.i l.sites)) ≡ l.initial.sources.items ++ flat_map pair_sources (pairs_of l.sites)
