-- A book has a place for each number, with its verdict if that was put.
use Rattle.std.specs.Prelude.{◌≡◌, ℕ, zero, suc, ◌+◌, Bool, true, false, List, [], ◌∷◌, Option, Some, None, option_map, slice_index_or}
use Rattle.std.specs.List.{enumerate_from, filter_map}
use Rattle.target_trait.specs.declared.judgement.Verdict.{Verdict}
use Rattle.target_trait.specs.declared.judgement.Verdict.TheVariants as verdict
use Rattle.result_book.specs.FirstFailure.{failing}

-- A number and its verdict.
pub record Pair : Type 0 where
  pub number : ℕ
  pub verdict : Verdict

-- Whether the number has its verdict. A number past the end has none.
abbrev pub has : List (Option Verdict) → ℕ → Bool
has slots n = elim (slice_index_or slots n None) [ None ↦ false | Some v ↦ true ]

abbrev pub failing_slot : ℕ → Option Verdict → Option (ℕ × ℕ) → Option (ℕ × ℕ)
failing_slot n None later = later
failing_slot n (Some v) later = failing n v later

-- The lowest number with a failure in the book, from number n on, with its code.
abbrev pub first_in : ℕ → List (Option Verdict) → Option (ℕ × ℕ)
first_in n [] = None
first_in n (s ∷ slots) = failing_slot n s (first_in (n + 1) slots)

-- Whether a place is taken.
abbrev pub is_full : Option Verdict → Bool
is_full None = false
is_full (Some v) = true

-- The places with a verdict put into its place, unless that is taken or there is no such place.
abbrev pub enter : List (Option Verdict) → ℕ → Verdict → List (Option Verdict)
enter [] n v = []
enter (None ∷ slots) zero v = Some v ∷ slots
enter (Some w ∷ slots) zero v = Some w ∷ slots
enter (s ∷ slots) (suc n) v = s ∷ enter slots n v

-- The verdicts in the book.
abbrev pub present : List (Option Verdict) → List Verdict
present [] = []
present (None ∷ slots) = present slots
present (Some v ∷ slots) = v ∷ present slots

-- A number with its verdict, if it has one.
abbrev pub with_number : ℕ × Option Verdict → Option (ℕ × Verdict)
with_number slot = option_map (λ v. (slot.0, v)) slot.1

-- Each number that has its verdict, with it, in the order of the numbers.
abbrev pub in_book : List (Option Verdict) → List (ℕ × Verdict)
in_book slots = filter_map with_number (enumerate_from 0 slots)

-- The book has a failure with this code at this number.
abbrev pub FailsIn : List (Option Verdict) → ℕ → ℕ → Type 0
FailsIn slots n code = slice_index_or slots n None ≡ Some (verdict.Fail code)
