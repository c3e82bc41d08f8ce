-- The verdicts of a list of plans, by the plans' numbers.
use Rattle.std.specs.Prelude.{ℕ, ◌+◌, List, [], ◌∷◌}
use Rattle.std.specs.List.{enumerate_from}
use Rattle.scenario_values.specs.Scenario.{Entries}
use Rattle.target_trait.specs.declared.judgement.Verdict.{Verdict}

-- The verdicts of plans that are numbered from n on. Each is run with its number as the stream number, so the verdicts are those that one thread
-- would find in order. `say` gives the verdict of a scenario under a stream number.
abbrev pub verdicts_from : (ℕ → Entries → Verdict) → ℕ → List Entries → List Verdict
verdicts_from say n [] = []
verdicts_from say n (plan ∷ plans) = say n plan ∷ verdicts_from say (n + 1) plans

-- The verdicts with their numbers, from 0 on.
abbrev pub numbered : List Verdict → List (ℕ × Verdict)
numbered verdicts = enumerate_from 0 verdicts
