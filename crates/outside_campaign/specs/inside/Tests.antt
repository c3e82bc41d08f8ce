-- What is known of the test of a set of faults. Private contracts cite it.
use Rattle.std.specs.Prelude.{◌≡◌, ℕ, true, List, [], ◌∷◌, ◌++◌, Some, None}
use Rattle.scenario_values.specs.Scenario.{Entries}
use Rattle.scenario_values.specs.Keep.{kept}
use Rattle.scenario_values.specs.Tidied.{tidied}
use Rattle.answer_text.specs.Known.{KnownVerdicts}
use Rattle.ddmin_parallel.specs.CoreEvents.{State, Put, apply, is_out, position, End}
use Rattle.ddmin_parallel.specs.Ddmin.{Reduced}
use Rattle.outside_campaign.specs.Reached.{known_tests}
use Rattle.outside_campaign.specs.declared.reduction.Reached.{Reached}
use Rattle.outside_campaign.specs.declared.reduction.Reached.TheVariants.{Reduced as Ended, Open}
use Rattle.outside_campaign.specs.declared.reduction.Test.{Test}
use Rattle.outside_campaign.specs.declared.reduction.Test.TheVariants.{Told, Untold}

-- Whether the test is known to fail, or else the scenario that isn't answered.
abbrev pub IsTested : KnownVerdicts → ℕ → Entries → List ℕ → Test → Type 0
IsTested known code s set (Told fails) = known_tests known code s set ≡ Some fails
IsTested known code s set (Untold t) = (known_tests known code s set ≡ None) × (t ≡ tidied (kept set s))

-- How a request is settled: its known answer is given to the core, or its scenario is added to those that are to be tried.
abbrev pub IsSettled : State → State → List Entries → List Entries → List ℕ → Test → Type 0
IsSettled old new before after set (Told fails) = (is_out old set ≡ true) × (new ≡ apply old (Put set fails)) × (after ≡ before)
IsSettled old new before after set (Untold t) = (new ≡ old) × (after ≡ before ++ t ∷ [])

-- A core is at its end, or it isn't and the scenarios that are to be tried are returned.
abbrev pub IsEnded : State → List Entries → Reached → Type 0
IsEnded core untried (Ended r) = position core ≡ End r
IsEnded core untried (Open given) = (given.items ≡ untried) × ((r : Reduced) → position core ≡ End r → ⊥)
