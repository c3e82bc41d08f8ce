-- How a fault table stores its scenario: the terms of all points one after another, and how many of them each point has.
use Rattle.std.specs.Prelude.{ℕ, zero, suc, ◌+◌, ◌≤◌, List, [], ◌∷◌, ◌++◌, length, take, drop}
use Rattle.scenario_values.specs.declared.term.Term.{Term}
use Rattle.scenario_values.specs.Scenario.{Entries}
use Rattle.action_eval.specs.declared.rig.Rig.{Rig}
use Rattle.action_eval.specs.RiggedScenario.{chain_from, entry}

-- The entries of these points, if each point has this many of the terms.
abbrev pub laid : List (List ℕ) → List ℕ → List Term → Entries
laid [] sizes terms = []
laid (name ∷ names) [] terms = []
laid (name ∷ names) (size ∷ sizes) terms = entry name (take size terms) ++ laid names sizes (drop size terms)

-- Each point has a size, and there are enough terms for all sizes.
abbrev pub AreSizes : List (List ℕ) → List ℕ → List Term → Type 0
AreSizes [] sizes terms = Unit {0}
AreSizes (name ∷ names) [] terms = ⊥
AreSizes (name ∷ names) (size ∷ sizes) terms = (size ≤ length terms) × AreSizes names sizes (drop size terms)

-- The terms of `count` points from number p on, for rigged hits in ascending order.
abbrev pub joined : ℕ → ℕ → List Rig → List Term
joined p zero rigs = []
joined p (suc count) rigs = chain_from p 0 rigs ++ joined (p + 1) count rigs

-- How many terms each of these points has.
abbrev pub sizes_of : ℕ → ℕ → List Rig → List ℕ
sizes_of p zero rigs = []
sizes_of p (suc count) rigs = length (chain_from p 0 rigs) ∷ sizes_of (p + 1) count rigs
