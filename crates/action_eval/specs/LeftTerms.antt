-- The terms that tidying leaves in a scenario.
use Rattle.std.specs.Prelude.{◌≡◌, ℕ, zero, suc, not, Option, Some, None, Bool, true, false, List, [], ◌∷◌, if◌then◌else◌}
use Rattle.std.specs.List.{AllByRecursion}
use Rattle.scenario_values.specs.declared.term.Term.{Term}
use Rattle.scenario_values.specs.Scenario.{Entries, chain_of}
use Rattle.scenario_values.specs.Tidied.{is_used, is_endless}
use Rattle.action_eval.specs.Answers.{Hit}

-- Whether tidying leaves the term at a place: its count isn't 0, and no term before it acts at every hit.
abbrev pub is_left : List Term → ℕ → Bool
is_left [] i = false
is_left (t ∷ ts) zero = not (is_used t.count)
is_left (t ∷ ts) (suc i) = if is_endless t then false else is_left ts i

-- If a term acted, it is one that tidying leaves.
abbrev pub ActsLeft : Entries → Option (List ℕ × ℕ) → Type 0
ActsLeft s None = Unit {0}
ActsLeft s (Some p) = is_left (chain_of s p.0) p.1 ≡ true

abbrev pub OnlyLeftActed : Entries → List Hit → Type 0
OnlyLeftActed s history = AllByRecursion (λ (h : Hit). ActsLeft s h.term) history
