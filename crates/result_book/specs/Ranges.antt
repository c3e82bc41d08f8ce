-- Verdicts of plans with consecutive numbers, and a book into which they are put.
use Rattle.std.specs.Prelude.{◌≡◌, ℕ, ◌+◌, ◌<◌, Vec, List, [], ◌∷◌, ◌++◌, Option, length, slice_index_or}
use Rattle.std.specs.Global.{Global}
use Rattle.scenario_values.specs.Scenario.{Entries}
use Rattle.target_trait.specs.declared.judgement.Verdict.{Verdict}
use Rattle.result_book.specs.Slots.{Pair, enter}

-- The verdicts of the plans from number `first` on, and the watched points that none of their runs asks.
pub record Stretch : Type 0 where
  pub first : ℕ
  pub verdicts : List Verdict
  pub unreached : List ℕ

-- Each verdict is that of its plan, run with its number as the stream number.
abbrev pub AreSaid : (ℕ → Entries → Verdict) → List Entries → ℕ → List Verdict → Type 0
AreSaid say plans first verdicts =
    (k : ℕ) (d : Verdict) → k < length verdicts → slice_index_or verdicts k d ≡ say (first + k) (slice_index_or plans (first + k) [])

-- The range before and after its last verdict was taken out, and that verdict with its number.
abbrev pub IsLast : Stretch → Stretch → Pair → Type 0
IsLast before after last =
    (before ≡ record { first = after.first; verdicts = after.verdicts ++ last.verdict ∷ []; unreached = after.unreached })
    × (last.number ≡ after.first + length after.verdicts)

-- The places with verdicts put in from number n on, of which the last one is put first.
abbrev pub enter_range : List (Option Verdict) → ℕ → List Verdict → List (Option Verdict)
enter_range slots n [] = slots
enter_range slots n (v ∷ vs) = enter (enter_range slots (n + 1) vs) n v

-- The places with ranges put in, of which the last one is put first.
abbrev pub enter_ranges : List (Option Verdict) → List (ℕ × Stretch) → List (Option Verdict)
enter_ranges slots [] = slots
enter_ranges slots (p ∷ ps) = enter_range (enter_ranges slots ps) p.1.first p.1.verdicts

-- The places with the ranges of several lists put in, of which the last list is put first.
abbrev pub enter_lists : List (Option Verdict) → List (Vec (ℕ × Stretch) Global) → List (Option Verdict)
enter_lists slots [] = slots
enter_lists slots (l ∷ ls) = enter_ranges (enter_lists slots ls) l.items
