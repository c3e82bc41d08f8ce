-- The faults of a scenario are the places of the terms whose task isn't `off`, in the order of entries and terms. This rule is this project's own.
use Rattle.std.specs.Prelude.{ℕ, ◌+◌, List, [], ◌∷◌, ◌++◌, Option, option_map, option_and_then, slice_get, if◌then◌else◌}
use Rattle.scenario_values.specs.declared.term.Term.{Term}
use Rattle.scenario_values.specs.declared.place.Place.{Place}
use Rattle.scenario_values.specs.Scenario.{Entries, is_off}

abbrev pub place_of : ℕ → ℕ → Term → List Place
place_of entry term t = if is_off t.task then [] else (record { entry = entry; term = term } ∷ [])

-- The places of the terms of a chain that aren't `off`, from one term on.
unfoldable pub chain_faults : ℕ → ℕ → List Term → List Place
chain_faults entry term [] = []
chain_faults entry term (t ∷ ts) = place_of entry term t ++ chain_faults entry (term + 1) ts

-- The same for a scenario, from one entry on.
unfoldable pub faults_from : ℕ → Entries → List Place
faults_from entry [] = []
faults_from entry (e ∷ es) = chain_faults entry 0 e.1 ++ faults_from (entry + 1) es

-- The faults of a scenario. The number of a fault is its place in this list, from 0.
abbrev pub faults : Entries → List Place
faults s = faults_from 0 s

-- The terms of a chain that are faults, each with the chain's name.
abbrev pub chain_named : List ℕ → List Term → List (List ℕ × Term)
chain_named name [] = []
chain_named name (t ∷ ts) = (if is_off t.task then [] else ((name, t) ∷ [])) ++ chain_named name ts

-- The faults of a scenario, each with its name and its term, in the order of their numbers.
abbrev pub named_faults : Entries → List (List ℕ × Term)
named_faults [] = []
named_faults (e ∷ es) = chain_named e.0 e.1 ++ named_faults es

-- The fault at a place, with its name and its term.
abbrev pub fault_at : Entries → Place → Option (List ℕ × Term)
fault_at s p = option_and_then (λ (e : List ℕ × List Term). option_map (λ (t : Term). (e.0, t)) (slice_get e.1 p.term)) (slice_get s p.entry)
