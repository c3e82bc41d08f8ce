-- How a hit is answered from what is left of the counts and the random words.
use Rattle.std.specs.Prelude.{ℕ, ◌+◌, List, [], length, Option, Some, None}
use Rattle.std.specs.List.{slice_range}
use Rattle.scenario_values.specs.declared.term.Term.{Term}
use Rattle.action_eval.specs.Words.{Drawn, word}
use Rattle.action_eval.specs.Trial.{Trial, tried, is_spent}

-- A chain and its start. If there is no chain, there are no terms.
abbrev pub chain_or_none : Option (List Term × ℕ) → List Term × ℕ
chain_or_none None = ([], 0)
chain_or_none (Some found) = found

-- The trial of a chain's terms, by the counts that are stored from its start on.
abbrev pub trial_by : List ℕ → Drawn → List Term × ℕ → Trial
trial_by left drawn found = tried (word drawn.seed drawn.stream) (is_spent (slice_range left found.1 (found.1 + length found.0))) 0 found.0 drawn.taken
