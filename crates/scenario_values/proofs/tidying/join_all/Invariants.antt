use Rattle.std.proofs.Common.{◌≡◌, ◌++◌, drop}
use Rattle.scenario_values.specs.Tidied.{joined_onto}
use Rattle.scenario_values.proofs.tidying.join_all.Given as goal

abbrev pub invariant-loop-term : goal.invariant-loop-term
invariant-loop-term l = l.done.items ++ joined_onto l.last (drop l.term-index l.rest) ≡ joined_onto l.fn.first l.rest
