use Rattle.std.proofs.Common.{◌≡◌, ◌++◌, take}
use Rattle.std.specs.List.{flat_map}
use Rattle.plan_gen.specs.inside.Drawn.{pair_sources}
use Rattle.plan_gen.proofs.parts.add_pairs_of.Given as goal

abbrev pub invariant-loop-second : goal.invariant-loop-second
invariant-loop-second l = l.sources.items ≡ l.initial.sources.items ++ flat_map (λ b. pair_sources (l.first, b)) (take l.second-index l.rest)
