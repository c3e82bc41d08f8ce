-- Scenarios in which a point fails, for laws about a single run.
use Rattle.std.specs.Prelude.{ℕ, List, [], ◌∷◌, Option, Some, None}
use Rattle.scenario_values.specs.declared.term.Term.{Term}
use Rattle.scenario_values.specs.declared.term.Task.TheVariants.{Return}

-- `NAME=COUNT*return`: the first COUNT hits of the point fail. Without a count all fail.
abbrev pub fails : List ℕ → Option ℕ → List ℕ × List Term
fails name count = (name, record { share = 1000000; count = count; task = Return None } ∷ [])

-- `NAME=1*return`: the first hit of the point fails, and no other.
abbrev pub fails_once : List ℕ → List ℕ × List Term
fails_once name = fails name (Some 1)
