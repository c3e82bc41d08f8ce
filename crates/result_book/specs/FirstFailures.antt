-- The first failure of each code, among verdicts with their numbers.
use Rattle.std.specs.Prelude.{◌≡◌, ◌≢◌, ℕ, ◌<◌, ◌==◌, nat_lt, Bool, not, ◌&&◌, List, Option, Some, None, option_map, filter, All, Any, AllPairs}
use Rattle.std.specs.List.{filter_map, list_any}
use Rattle.target_trait.specs.declared.judgement.Verdict.{Verdict}
use Rattle.target_trait.specs.declared.judgement.Verdict.TheVariants as verdict

-- The code of a verdict, if it is a failure.
abbrev pub code_of : Verdict → Option ℕ
code_of verdict.Pass = None
code_of (verdict.Fail code) = Some code
code_of verdict.Unresolved = None

-- The number and the code of a verdict, if it is a failure.
abbrev pub failure : ℕ × Verdict → Option (ℕ × ℕ)
failure pair = option_map (λ code. (pair.0, code)) (code_of pair.1)

-- The numbers of all failures, each with its code.
abbrev pub failures : List (ℕ × Verdict) → List (ℕ × ℕ)
failures pairs = filter_map failure pairs

-- Whether the second failure has a lower number than the first, and the same code.
abbrev pub is_earlier : ℕ × ℕ → ℕ × ℕ → Bool
is_earlier later earlier = nat_lt earlier.0 later.0 && (earlier.1 == later.1)

-- The failures with the lowest number of their code.
abbrev pub first_failures : List (ℕ × Verdict) → List (ℕ × ℕ)
first_failures pairs = filter (λ f. not (list_any (is_earlier f) (failures pairs))) (failures pairs)

-- These are the first failures, given which number fails with which code.
pub record AreFirstFailures (Fails : ℕ → ℕ → Type 0) (firsts : List (ℕ × ℕ)) : Type 0 where
  -- Each fails at its number with its code, and no lower number fails with that code.
  pub least : All (λ first. Fails first.0 first.1 × ((lower : ℕ) → lower < first.0 → Fails lower first.1 → ⊥)) firsts
  -- Each code with which a number fails is among them.
  pub complete : (n code : ℕ) → Fails n code → Any (λ first. first.1 ≡ code) firsts
  -- They are in the order of their numbers.
  pub ascending : AllPairs (λ a b. a.0 < b.0) firsts
  -- No two have the same code.
  pub distinct : AllPairs (λ a b. a.1 ≢ b.1) firsts
