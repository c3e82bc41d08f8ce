use Rattle.std.proofs.Common.{◌≡◌, ◌++◌, take}
use Rattle.std.specs.List.{flat_map}
use Rattle.plan_gen.specs.inside.Drawn.{site_sources}
use Rattle.plan_gen.proofs.parts.add_sites.Given as goal

abbrev pub invariant-loop-site : goal.invariant-loop-site
invariant-loop-site l = l.sources.items ≡ l.initial.sources.items ++ flat_map site_sources (take l.site-index l.sites)
