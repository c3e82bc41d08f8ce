-- The first failure of a list of verdicts.
use Rattle.std.specs.Prelude.{◌≡◌, ℕ, ◌+◌, ◌<◌, List, [], ◌∷◌, Option, Some, None, slice_index_or}
use Rattle.target_trait.specs.declared.judgement.Verdict.{Verdict}
use Rattle.target_trait.specs.declared.judgement.Verdict.TheVariants as verdict

-- The number and the code of a verdict, if it is a failure, or else what comes later.
abbrev pub failing : ℕ → Verdict → Option (ℕ × ℕ) → Option (ℕ × ℕ)
failing n verdict.Pass later = later
failing n (verdict.Fail code) later = Some (n, code)
failing n verdict.Unresolved later = later

-- The lowest number whose verdict is a failure, with its code. The verdicts are numbered from n on.
abbrev pub first_from : ℕ → List Verdict → Option (ℕ × ℕ)
first_from n [] = None
first_from n (v ∷ vs) = failing n v (first_from (n + 1) vs)

-- The verdict of this number is a failure with this code.
abbrev pub FailsAt : List Verdict → ℕ → ℕ → Type 0
FailsAt vs i code = slice_index_or vs i verdict.Pass ≡ verdict.Fail code

-- This is the first failure, given which number fails with which code: it fails with its code, and no lower number fails. There is none if no number
-- fails.
abbrev pub IsFirstFailure : (ℕ → ℕ → Type 0) → Option (ℕ × ℕ) → Type 0
IsFirstFailure Fails None = (n code : ℕ) → Fails n code → ⊥
IsFirstFailure Fails (Some first) = Fails first.0 first.1 × ((n code : ℕ) → n < first.0 → Fails n code → ⊥)
