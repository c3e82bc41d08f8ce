-- The recursion of first failures finds the least one.
use Rattle.std.proofs.Common.{◌≡◌, ℕ, zero, suc, ◌+◌, ◌<◌, Bool, true, false, List, [], ◌∷◌, Option, Some, None, refl, arith, ap, sym, subst}
use Rattle.std.proofs.lemmas.Bool.{false≢true}
use Rattle.target_trait.specs.declared.judgement.Verdict.{Verdict}
use Rattle.target_trait.specs.declared.judgement.Verdict.TheVariants as verdict
use Rattle.result_book.specs.FirstFailure.{IsFirstFailure}
use Rattle.result_book.specs.Slots.{first_in, FailsIn}

abbrev failed : Option Verdict → Bool
failed None = false
failed (Some verdict.Pass) = false
failed (Some (verdict.Fail code)) = true
failed (Some verdict.Unresolved) = false

-- the same of places numbered from n on
abbrev IsFrom : ℕ → List (Option Verdict) → Option (ℕ × ℕ) → Type 0
IsFrom n slots None = (i code : ℕ) → FailsIn slots i code → ⊥
IsFrom n slots (Some first) = (k : ℕ) × ((first.0 ≡ n + k) × FailsIn slots k first.1 × ((i code : ℕ) → i < k → FailsIn slots i code → ⊥))

before : (s : Option Verdict) (slots : List (Option Verdict)) (k : ℕ) → ((code : ℕ) → s ≡ Some (verdict.Fail code) → ⊥) → ((i code : ℕ) → i < k → FailsIn slots i code → ⊥) → (i code : ℕ) → i < suc k → FailsIn (s ∷ slots) i code → ⊥
before s slots k sound rest zero code lt fails = sound code fails
before s slots k sound rest (suc i) code lt fails = rest i code (omega arith) fails

none_of : (s : Option Verdict) (slots : List (Option Verdict)) → ((code : ℕ) → s ≡ Some (verdict.Fail code) → ⊥) → ((i code : ℕ) → FailsIn slots i code → ⊥) → (i code : ℕ) → FailsIn (s ∷ slots) i code → ⊥
none_of s slots sound rest zero code fails = sound code fails
none_of s slots sound rest (suc i) code fails = rest i code fails

-- a place without a failure goes before
later : (n : ℕ) (s : Option Verdict) (slots : List (Option Verdict)) → ((code : ℕ) → s ≡ Some (verdict.Fail code) → ⊥) → (first : Option (ℕ × ℕ)) → IsFrom (n + 1) slots first → IsFrom n (s ∷ slots) first
later n s slots sound None none = none_of s slots sound none
later n s slots sound (Some first) is = (suc is.0, (let at = is.1.0 in omega (arith, at), is.1.1, before s slots is.0 sound is.1.2))

from : (n : ℕ) (slots : List (Option Verdict)) → IsFrom n slots (first_in n slots)
from n [] = λ i code fails. false≢true (ap failed fails)
from n (None ∷ slots) = later n None slots (λ code fails. false≢true (ap failed fails)) (first_in (n + 1) slots) (from (n + 1) slots)
from n (Some verdict.Pass ∷ slots) = later n (Some verdict.Pass) slots (λ code fails. false≢true (ap failed fails)) (first_in (n + 1) slots) (from (n + 1) slots)
from n (Some (verdict.Fail code) ∷ slots) = (0, (omega arith, refl, λ i other lt fails. absurd (omega arith)))
from n (Some verdict.Unresolved ∷ slots) = later n (Some verdict.Unresolved) slots (λ code fails. false≢true (ap failed fails)) (first_in (n + 1) slots) (from (n + 1) slots)

to_first : (slots : List (Option Verdict)) (first : Option (ℕ × ℕ)) → IsFrom 0 slots first → IsFirstFailure (FailsIn slots) first
to_first slots None is = is
to_first slots (Some first) is =
    let at : first.0 ≡ is.0 = (let sum = is.1.0 in omega (arith, sum)) in
    (subst (λ k. FailsIn slots k first.1) (sym at) is.1.1, λ i code lt fails. is.1.2 i code (omega (arith, at, lt)) fails)

pub least_slot : (slots : List (Option Verdict)) → IsFirstFailure (FailsIn slots) (first_in 0 slots)
least_slot slots = to_first slots (first_in 0 slots) (from 0 slots)
