-- The entries that borrowed names and chains stand for.
use Rattle.std.specs.Prelude.{ℕ, List, map}
use Rattle.std.specs.Borrow.{Bor}
use Rattle.scenario_values.specs.declared.term.Term.{Term}
use Rattle.scenario_values.specs.Scenario.{Entries}

-- Each name with its chain, in order.
abbrev pub listed : List (Bor (List ℕ) × Bor (List Term)) → Entries
listed entries = map (λ e. (e.0.now, e.1.now)) entries
