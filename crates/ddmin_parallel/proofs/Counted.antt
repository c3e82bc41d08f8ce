use Rattle.std.proofs.Common.{◌≡◌, ℕ, zero, suc, ◌+◌, ◌-◌, ◌^◌, ◌<◌, ◌≤◌, Bool, true, false, List, refl, sym, ◌∙◌, ap, subst, arith, ltb, min, Some}
use Rattle.std.proofs.lemmas.Bool.{ltb-true}
use Rattle.std.proofs.lemmas.Bool.Decides.{nat_tests}
use Rattle.ddmin_parallel.specs.Rounds.{round}
use Rattle.ddmin_parallel.specs.Ddmin.{counted}
use Rattle.ddmin_parallel.specs.inside.Candidates.{candidate, candidates}
use Rattle.ddmin_parallel.specs.CoreEvents.{Answers, decided, Position, Empty, Round, End}
use Rattle.ddmin_parallel.specs.inside.Cursors.{IsCounted}
use Rattle.ddmin_parallel.proofs.Steps.{from, from_all}
use Rattle.ddmin_parallel.proofs.KnownSteps.{decided_pass}

-- what holds below k and at k
pub extended : (P : ℕ → Type 0) (k : ℕ) → ((j : ℕ) → j < k → P j) → P k → (j : ℕ) → j < k + 1 → P j
extended P k below here j lt = at (ltb j k) refl
  where
    at : (b : Bool) → ltb j k ≡ b → P j
    at true is = below j (ltb-true j k is)
    at false is =
        let same : k ≡ j = grind (arith, nat_tests) in
        subst P same here

-- the tests counted after so many more
pub counted_times : ℕ → ℕ → ℕ
counted_times zero tests = tests
counted_times (suc k) tests = counted (counted_times k tests)

pub counted_times_is : (k tests : ℕ) → tests < 2 ^ 64 → counted_times k tests ≡ min (tests + k) (2 ^ 64 - 1)
unfolding counted_times
counted_times_is zero tests lt = omega arith
counted_times_is (suc k) tests lt = ap counted (counted_times_is k tests lt) ∙ omega arith

-- past candidates that pass
pub decided_moved : (known : Answers) (c : List ℕ) (n k tests : ℕ) → k ≤ candidates n → ((j : ℕ) → j < k → known (candidate c n j).set ≡ Some false)
    → decided known (from c n k) (counted_times k tests) ≡ decided known (round c n) tests
unfolding counted_times
decided_moved known c n zero tests le pass = ap (λ ss. decided known ss tests) (from_all c n)
decided_moved known c n (suc k) tests le pass =
    let next : suc k ≡ k + 1 = omega arith in
    ap (λ m. decided known (from c n m) (counted (counted_times k tests))) next
    ∙ sym (decided_pass known c n k (counted_times k tests) (omega arith) (pass k (omega arith)))
    ∙ decided_moved known c n k tests (omega arith) (λ j lt. pass j (omega arith))

-- a round that was stepped to has come to its first candidate
pub counted_none : (known : Answers) (p : Position) → IsCounted known p 0
counted_none known (Empty faults) = tt
counted_none known (Round c n tests) = (omega arith, λ j lt. absurd (omega arith))
counted_none known (End r) = tt

-- what passes goes on to pass
pub counted_more : (known more : Answers) → ((s : List ℕ) (b : Bool) → known s ≡ Some b → more s ≡ Some b) → (p : Position) (place : ℕ)
    → IsCounted known p place → IsCounted more p place
counted_more known more grows (Empty faults) place h = tt
counted_more known more grows (Round c n tests) place h = (h.0, λ j lt. grows (candidate c n j).set false (h.1 j lt))
counted_more known more grows (End r) place h = tt
