-- How a book keeps its places, and how it finds first failures place by place.
use Rattle.std.specs.Prelude.{ℕ, Bool, true, false, List, [], ◌∷◌, ◌++◌, Option, Some, None, ◌==◌, if◌then◌else◌}
use Rattle.std.specs.List.{list_any}
use Rattle.target_trait.specs.declared.judgement.Verdict.{Verdict}
use Rattle.target_trait.specs.declared.judgement.Verdict.TheVariants as verdict

-- A place has its verdict, if one was put there.
abbrev pub place : Bool → Verdict → Option Verdict
place true v = Some v
place false v = None

-- The places, given which of them have a verdict, and the verdicts.
abbrev pub places : List Bool → List Verdict → List (Option Verdict)
places [] vs = []
places (b ∷ bs) [] = []
places (b ∷ bs) (v ∷ vs) = place b v ∷ places bs vs

-- The first failures with that of the next place, unless there is one with the same code.
abbrev pub with_first : List (ℕ × ℕ) → ℕ → Option Verdict → List (ℕ × ℕ)
with_first found n None = found
with_first found n (Some verdict.Pass) = found
with_first found n (Some (verdict.Fail code)) = if list_any (λ f. f.1 == code) found then found else (found ++ (n, code) ∷ [])
with_first found n (Some verdict.Unresolved) = found
