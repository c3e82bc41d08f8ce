-- How far a reduction comes by what is known.
use Rattle.std.specs.Prelude.{◌≡◌, ℕ, ◌<◌, true, false, List, [], ◌∷◌, length, map, fold, Some, None, option_map, if◌then◌else◌}
use Rattle.indexmap.specs.IndexSet.{insert_key}
use Rattle.scenario_values.specs.Scenario.{Entries, all_faults}
use Rattle.scenario_values.specs.Keep.{are_faults, kept}
use Rattle.scenario_values.specs.Tidied.{tidied}
use Rattle.ddmin_parallel.specs.Rounds.{Candidate}
use Rattle.ddmin_parallel.specs.CoreEvents.{Answers, Position, End, furthest, round_at, same_set, start, walk}
use Rattle.answer_text.specs.Known.{KnownVerdicts}
use Rattle.campaign_core.specs.FaultTest.{fails_with, fault_test}
use Rattle.outside_campaign.specs.Outside.{Component, say}
use Rattle.outside_campaign.specs.declared.reduction.Reached.{Reached}
use Rattle.outside_campaign.specs.declared.reduction.Reached.TheVariants.{Reduced as Ended, Open}

-- What is known of the test of each set of faults: whether the scenario with only these faults, tidied, fails with this code. A list that isn't
-- faults of the scenario in ascending order doesn't fail.
abbrev pub known_tests : KnownVerdicts → ℕ → Entries → Answers
known_tests known code s set =
    if are_faults (all_faults s) set then option_map (fails_with code) (known (tidied (kept set s))) else Some false

-- The place in the reduction that what is known leads to: its end, or the first round that isn't decided.
abbrev pub place_of : KnownVerdicts → ℕ → Entries → Position
place_of known code s = furthest (known_tests known code s) (start (all_faults s))

-- The sets of a round's candidates of which nothing is known, up to the first candidate that is known to fail.
abbrev pub unknown_sets : Answers → List Candidate → List (List ℕ)
unknown_sets known [] = []
unknown_sets known (c ∷ cs) = elim (known c.set) [
  | None ↦ c.set ∷ unknown_sets known cs
  | Some fails ↦ elim fails [ true ↦ [] | false ↦ unknown_sets known cs ]
]

-- The same, each set once, at its first place.
abbrev pub open_sets : Answers → List Candidate → List (List ℕ)
open_sets known cs = fold (insert_key same_set) [] (unknown_sets known cs)

-- The open candidates of a reduction, as tidied scenarios: all that its present round waits for. If what is known leads to the end, there are none.
abbrev pub open_candidates : KnownVerdicts → ℕ → Entries → List Entries
open_candidates known code s = map (λ set. tidied (kept set s)) (open_sets (known_tests known code s) (round_at (place_of known code s)))

-- The reduction of this component, one test at a time, comes to this place.
abbrev pub ComesTo : Component → ℕ → Entries → Position → Type 0
ComesTo component code s place =
    (steps : ℕ) × (walk steps (λ set. Some (fault_test (say component 0) code s set)) (start (all_faults s)) ≡ place)

-- The end that what is known leads to, or else all open candidates, at least one.
abbrev pub IsReached : KnownVerdicts → ℕ → Entries → Reached → Type 0
IsReached known code s (Ended r) = place_of known code s ≡ End r
IsReached known code s (Open untried) = (0 < length untried.items) × (untried.items ≡ open_candidates known code s)
