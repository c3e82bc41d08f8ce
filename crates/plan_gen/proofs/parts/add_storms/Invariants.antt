use Rattle.std.proofs.Common.{◌≡◌, ◌++◌, map}
use Rattle.std.specs.List.{range_with_len}
use Rattle.plan_gen.specs.declared.drawing.Source.TheVariants.{Storm}
use Rattle.plan_gen.proofs.parts.add_storms.Given as goal

abbrev pub invariant-loop-number : goal.invariant-loop-number
invariant-loop-number l = l.sources.items ≡ l.initial.sources.items ++ map Storm (range_with_len 0 l.number)
