use Rattle.std.proofs.Common.{◌≡◌, ℕ, ◌+◌, ◌-◌, ◌<◌, ◌≤◌, Bool, true, false, List, map, refl, ◌∙◌, ap, arith, None, Some}
use Rattle.std.specs.List.{range_with_len}
use Rattle.ddmin_parallel.specs.Ddmin.{Fails, NoneFails, counted}
use Rattle.ddmin_parallel.specs.inside.Candidates.{candidate, candidates}
use Rattle.ddmin_parallel.specs.CoreEvents.{Answers, decided, first_open}
use Rattle.ddmin_parallel.proofs.Steps.{from, from_step}

-- the same of what is known

pub decided_pass : (known : Answers) (c : List ℕ) (n k tests : ℕ) → k < candidates n → known (candidate c n k).set ≡ Some false
    → decided known (from c n k) tests ≡ decided known (from c n (k + 1)) (counted tests)
decided_pass known c n k tests lt is = ap (λ ss. decided known ss tests) (from_step c n k lt) ∙ rw (is, decided) refl

pub decided_fail : (known : Answers) (c : List ℕ) (n k tests : ℕ) → k < candidates n → known (candidate c n k).set ≡ Some true
    → decided known (from c n k) tests ≡ Some (Fails (candidate c n k) (counted tests))
decided_fail known c n k tests lt is = ap (λ ss. decided known ss tests) (from_step c n k lt) ∙ rw (is, decided) refl

pub decided_end : (known : Answers) (c : List ℕ) (n k tests : ℕ) → candidates n ≤ k → decided known (from c n k) tests ≡ Some (NoneFails tests)
decided_end known c n k tests le =
    let none : candidates n - k ≡ 0 = omega arith in
    ap (λ m. decided known (map (candidate c n) (range_with_len k m)) tests) none

-- the same of the request rule

pub open_pass : (known : Answers) (out : List ℕ → Bool) (c : List ℕ) (n k : ℕ) → k < candidates n → known (candidate c n k).set ≡ Some false
    → first_open known out (from c n k) ≡ first_open known out (from c n (k + 1))
open_pass known out c n k lt is = ap (first_open known out) (from_step c n k lt) ∙ rw (is, first_open) refl

pub open_out : (known : Answers) (out : List ℕ → Bool) (c : List ℕ) (n k : ℕ) → k < candidates n → known (candidate c n k).set ≡ None
    → out (candidate c n k).set ≡ true
    → first_open known out (from c n k) ≡ first_open known out (from c n (k + 1))
open_out known out c n k lt is so = ap (first_open known out) (from_step c n k lt) ∙ rw (is, so, first_open) refl

pub open_fails : (known : Answers) (out : List ℕ → Bool) (c : List ℕ) (n k : ℕ) → k < candidates n → known (candidate c n k).set ≡ Some true
    → first_open known out (from c n k) ≡ None
open_fails known out c n k lt is = ap (first_open known out) (from_step c n k lt) ∙ rw (is, first_open) refl

pub open_here : (known : Answers) (out : List ℕ → Bool) (c : List ℕ) (n k : ℕ) → k < candidates n → known (candidate c n k).set ≡ None
    → out (candidate c n k).set ≡ false
    → first_open known out (from c n k) ≡ Some (candidate c n k).set
open_here known out c n k lt is so = ap (first_open known out) (from_step c n k lt) ∙ rw (is, so, first_open) refl

pub open_end : (known : Answers) (out : List ℕ → Bool) (c : List ℕ) (n k : ℕ) → candidates n ≤ k → first_open known out (from c n k) ≡ None
open_end known out c n k le =
    let none : candidates n - k ≡ 0 = omega arith in
    ap (λ m. first_open known out (map (candidate c n) (range_with_len k m))) none
