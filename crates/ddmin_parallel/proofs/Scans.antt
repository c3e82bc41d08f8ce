use Rattle.std.proofs.Common.{◌≡◌, ℕ, zero, suc, ◌+◌, ◌*◌, ◌<◌, ◌≤◌, Bool, true, false, ◌||◌, List, [], length, refl, sym, ◌∙◌, ap, subst, arith}
use Rattle.std.proofs.Common.{ltb, leb, min, Option, None, Some, inl, inr, not, unwrap_or}
use Rattle.std.specs.Prelude.{◌⊎◌}
use Rattle.std.proofs.lemmas.Cmp.{nat_list_cmp_total}
use Rattle.std.specs.Cmp.{eq_by_cmp_equiv}
use Rattle.ddmin_parallel.specs.Rounds.{Candidate, round}
use Rattle.ddmin_parallel.specs.Ddmin.{Fails, counted, kept_after, Reduced}
use Rattle.ddmin_parallel.specs.inside.Candidates.{candidate, candidates, found}
use Rattle.ddmin_parallel.specs.CoreEvents.{Answers, decided, Position, Empty, Round, End, after_empty, after_decision, option_then, step, same_set, first_open}
use Rattle.ddmin_parallel.specs.CoreEvents.{round_at, hoping, next_round}
use Rattle.ddmin_parallel.specs.inside.CoreStates.{IsLawful, IsSmall}
use Rattle.ddmin_parallel.specs.inside.Cursors.{is_shut, IsShutBelow, IsCounted, onward, follow, Leads, with_set, IsReached}
use Rattle.ddmin_parallel.proofs.Steps.{from, from_all}
use Rattle.ddmin_parallel.proofs.KnownSteps.{open_pass, open_out, open_fails, open_here, open_end, decided_fail, decided_end}
use Rattle.ddmin_parallel.proofs.Counted.{extended, counted_times, decided_moved}
use Rattle.ddmin_parallel.proofs.Walk.{step_on}

-- ---- one set

pub shut_cases : (known : Answers) (out : List ℕ → Bool) (s : List ℕ) → is_shut known out s ≡ true
    → (known s ≡ Some false) ⊎ ((known s ≡ None) × (out s ≡ true))
shut_cases known out s is = at (known s) refl is
  where
    at : (k : Option Bool) → known s ≡ k → elim k [ None ↦ out s | Some fails ↦ not fails ] ≡ true
        → (known s ≡ Some false) ⊎ ((known s ≡ None) × (out s ≡ true))
    at None e h = inr (e, h)
    at (Some true) e h = absurd (let never : false ≡ true = h in cc)
    at (Some false) e h = inl e

pub shut_pass : (known : Answers) (out : List ℕ → Bool) (s : List ℕ) → known s ≡ Some false → is_shut known out s ≡ true
shut_pass known out s e = rw (e, is_shut) refl

pub shut_out : (known : Answers) (out : List ℕ → Bool) (s : List ℕ) → known s ≡ None → out s ≡ true → is_shut known out s ≡ true
shut_out known out s e is = rw (e, is_shut) is

-- A set that is shut stays shut if no fewer are out.
shut_wider : (known : Answers) (out out' : List ℕ → Bool) → ((s : List ℕ) → out s ≡ true → out' s ≡ true) → (s : List ℕ) → is_shut known out s ≡ true
    → is_shut known out' s ≡ true
shut_wider known out out' wider s is = elim (shut_cases known out s is) [ inl e ↦ shut_pass known out' s e | inr e ↦ shut_out known out' s e.0 (wider s e.1) ]

pub below_none : (known : Answers) (out : List ℕ → Bool) (p : Position) → IsShutBelow known out p 0
below_none known out (Empty faults) = tt
below_none known out (Round c n tests) = (omega arith, λ j lt. absurd (omega arith))
below_none known out (End r) = tt

same_self : (s : List ℕ) → same_set s s ≡ true
same_self s = (eq_by_cmp_equiv nat_list_cmp_total).refl s

or_left : (a b : Bool) → a ≡ true → (a || b) ≡ true
or_left true b is = refl
or_left false b is = absurd (let never : false ≡ true = is in cc)

or_right : (a b : Bool) → b ≡ true → (a || b) ≡ true
or_right true b is = refl
or_right false b is = is

-- ---- a round

shut_step : (known : Answers) (out : List ℕ → Bool) (c : List ℕ) (n k : ℕ) → k < candidates n → is_shut known out (candidate c n k).set ≡ true
    → first_open known out (from c n k) ≡ first_open known out (from c n (k + 1))
shut_step known out c n k lt is = elim (shut_cases known out (candidate c n k).set is) [
  | inl e ↦ open_pass known out c n k lt e
  | inr e ↦ open_out known out c n k lt e.0 e.1
]

shut_moved : (known : Answers) (out : List ℕ → Bool) (c : List ℕ) (n k : ℕ) → k ≤ candidates n
    → ((j : ℕ) → j < k → is_shut known out (candidate c n j).set ≡ true)
    → first_open known out (from c n k) ≡ first_open known out (round c n)
shut_moved known out c n zero le h = ap (first_open known out) (from_all c n)
shut_moved known out c n (suc k) le h =
    let next : suc k ≡ k + 1 = omega arith in
    ap (λ m. first_open known out (from c n m)) next ∙ sym (shut_step known out c n k (omega arith) (h k (omega arith)))
    ∙ shut_moved known out c n k (omega arith) (λ j lt. h j (omega arith))

-- a set that is shut passes, as far as is hoped
hoped : (known : Answers) (out : List ℕ → Bool) (s : List ℕ) → is_shut known out s ≡ true → hoping known s ≡ Some false
hoped known out s is = elim (shut_cases known out s is) [
  | inl e ↦ ap (λ k. Some (unwrap_or k false)) e
  | inr e ↦ ap (λ k. Some (unwrap_or k false)) e.0
]

hoped_moved : (known : Answers) (out : List ℕ → Bool) (c : List ℕ) (n k tests : ℕ) → k ≤ candidates n
    → ((j : ℕ) → j < k → is_shut known out (candidate c n j).set ≡ true)
    → decided (hoping known) (from c n k) (counted_times k tests) ≡ decided (hoping known) (round c n) tests
hoped_moved known out c n k tests le h = decided_moved (hoping known) c n k tests le (λ j lt. hoped known out (candidate c n j).set (h j lt))

-- what a search of a round finds

pub found_open : (known : Answers) (out : List ℕ → Bool) (c : List ℕ) (n k tests : ℕ) (s : List ℕ) → IsShutBelow known out (Round c n 0) k → k < candidates n
    → s ≡ (candidate c n k).set → known (candidate c n k).set ≡ None → out (candidate c n k).set ≡ false
    → (first_open known out (round c n) ≡ Some s) × IsShutBelow known (with_set out s) (Round c n tests) (k + 1)
found_open known out c n k tests s h lt is unknown away = (
  sym (shut_moved known out c n k h.0 h.1) ∙ open_here known out c n k lt unknown away ∙ ap (λ t. Some t) (sym is),
  (
    omega arith,
    extended (λ j. is_shut known (with_set out s) (candidate c n j).set ≡ true) k
        (λ j lower. shut_wider known out (with_set out s) (λ t e. or_left (out t) (same_set t s) e) (candidate c n j).set (h.1 j lower))
        (shut_out known (with_set out s) (candidate c n k).set unknown (or_right (out (candidate c n k).set) (same_set (candidate c n k).set s)
        (ap (same_set (candidate c n k).set) is ∙ same_self (candidate c n k).set))),
  ),
)

pub found_failing : (known : Answers) (out : List ℕ → Bool) (c : List ℕ) (n k tests : ℕ) (s : Candidate) → IsShutBelow known out (Round c n 0) k
    → k < candidates n
    → s ≡ candidate c n k → known (candidate c n k).set ≡ Some true
    → (first_open known out (round c n) ≡ None) × IsShutBelow known out (Round c n tests) k × Leads known (Round c n tests) (Some s)
found_failing known out c n k tests s h lt is fails =
    let bad : hoping known (candidate c n k).set ≡ Some true = ap (λ k. Some (unwrap_or k false)) fails in (
      sym (shut_moved known out c n k h.0 h.1) ∙ open_fails known out c n k lt fails,
      h,
      (
        counted (counted_times k tests),
        ap (option_then (after_decision c n))
            (sym (hoped_moved known out c n k tests h.0 h.1) ∙ decided_fail (hoping known) c n k (counted_times k tests) lt bad ∙ ap
            (λ t. Some (Fails t (counted (counted_times k tests)))) (sym is)),
      ),
    )

pub found_none : (known : Answers) (out : List ℕ → Bool) (c : List ℕ) (n k tests : ℕ) → IsShutBelow known out (Round c n 0) k → candidates n ≤ k
    → (first_open known out (round c n) ≡ None) × IsShutBelow known out (Round c n tests) k × Leads known (Round c n tests) None
found_none known out c n k tests h ge = (
  sym (shut_moved known out c n k h.0 h.1) ∙ open_end known out c n k ge,
  h,
  (
    counted_times k tests,
    ap (option_then (after_decision c n)) (sym (hoped_moved known out c n k tests h.0 h.1) ∙ decided_end (hoping known) c n k
        (counted_times k tests) ge),
  ),
)

-- ---- one round further

-- a count has no say in what holds of all counts alike
recounted : (Q : Position → Type 0) → ((c : List ℕ) (n tests tests' : ℕ) → Q (Round c n tests) → Q (Round c n tests'))
    → ((r r' : Reduced) → Q (End r) → Q (End r'))
    → (c : List ℕ) (n tests tests' : ℕ) (o : Option Candidate) → Q (after_decision c n (found o tests)) → Q (after_decision c n (found o tests'))
recounted Q round_so end_so c n tests tests' None h = at (ltb n (length c)) h
  where
    at : (b : Bool) → Q (elim b [ true ↦ Round c (min (length c) (2 * n)) tests | false ↦ End (kept_after c tests) ])
        → Q (elim b [ true ↦ Round c (min (length c) (2 * n)) tests' | false ↦ End (kept_after c tests') ])
    at true h = round_so c (min (length c) (2 * n)) tests tests' h
    at false h = end_so (kept_after c tests) (kept_after c tests') h
recounted Q round_so end_so c n tests tests' (Some s) h = at (leb (length s.set) 1) h
  where
    at : (b : Bool) → Q (elim b [ true ↦ End (kept_after s.set tests) | false ↦ Round s.set s.parts tests ])
        → Q (elim b [ true ↦ End (kept_after s.set tests') | false ↦ Round s.set s.parts tests' ])
    at true h = end_so (kept_after s.set tests) (kept_after s.set tests') h
    at false h = round_so s.set s.parts tests tests' h

-- the position that is followed is the one further, up to its count
pub record IsFollowed (known : Answers) (out : List ℕ → Bool) (p q : Position) : Type 0 where
  pub lawful : IsLawful q
  pub small : IsSmall q
  pub same_round : next_round known p ≡ round_at q
  pub there : (k : ℕ) → IsShutBelow known out (onward known p) k → IsShutBelow known out q k
  pub back : (out' : List ℕ → Bool) (k : ℕ) → IsShutBelow known out' q k → IsShutBelow known out' (onward known p) k

-- A step that is only hoped for.
hoped_step : (known : Answers) (out : List ℕ → Bool) (p q : Position) → IsLawful p → IsSmall p → step (hoping known) p ≡ Some q → IsFollowed known out p q
hoped_step known out p q lawful small is =
    let on = step_on (hoping known) p q lawful small is in
    let same : onward known p ≡ q = ap (λ o. elim o [ None ↦ p | Some q ↦ q ]) is in
    record {
      lawful = on.lawful;
      small = on.small;
      same_round = ap (λ o. elim o [ None ↦ [] | Some q ↦ round_at q ]) is;
      there = λ k h. subst (λ x. IsShutBelow known out x k) same h;
      back = λ out' k h. subst (λ x. IsShutBelow known out' x k) (sym same) h;
    }

empty_unknown : (known : Answers) (faults : ℕ) → step known (Empty faults) ≡ None → known [] ≡ None
empty_unknown known faults stuck = at (known []) refl stuck
  where
    at : (k : Option Bool) → known [] ≡ k → option_then (after_empty faults) k ≡ None → known [] ≡ None
    at None e h = e
    at (Some b) e h = absurd (let never : ◌≡◌ {A = Option Position} (Some (after_empty faults b)) None = h in cc)

pub followed : (known : Answers) (out : List ℕ → Bool) (p : Position) (o : Option Candidate) → IsLawful p → IsSmall p → step known p ≡ None → Leads known p o
    → IsFollowed known out p (follow p o)
followed known out (Empty faults) o lawful small stuck leads =
    hoped_step known out (Empty faults) (follow (Empty faults) o) lawful small
    (ap (λ k. Some (after_empty faults (unwrap_or k false))) (empty_unknown known faults stuck))
followed known out (Round c n tests) o lawful small stuck leads =
    let q = after_decision c n (found o leads.0) in
    let at = hoped_step known out (Round c n tests) q lawful small leads.1 in
    let q' = after_decision c n (found o 0) in
    record {
      lawful = recounted IsLawful (λ c n t t' h. h) (λ r r' h. tt) c n leads.0 0 o at.lawful;
      small = recounted IsSmall (λ c n t t' h. h) (λ r r' h. tt) c n leads.0 0 o at.small;
      same_round = recounted (λ x. next_round known (Round c n tests) ≡ round_at x) (λ c n t t' h. h) (λ r r' h. h) c n leads.0 0 o at.same_round;
      there = λ k h. recounted (λ x. IsShutBelow known out x k) (λ c n t t' h. h) (λ r r' h. tt) c n leads.0 0 o (at.there k h);
      back = λ out' k h. at.back out' k (recounted (λ x. IsShutBelow known out' x k) (λ c n t t' h. h) (λ r r' h. tt) c n 0 leads.0 o h);
    }
followed known out (End r) o lawful small stuck leads = record { lawful = tt; small = tt; same_round = refl; there = λ k h. tt; back = λ out' k h. tt }

-- ---- requests

-- the cursor that stands at a place and claims nothing else
pub reset : (known : Answers) (out : List ℕ → Bool) (p : Position) (place : ℕ) → IsCounted known p place
    → IsReached known out p (record { place = place; closed = place; ahead = 0 })
reset known out (Empty faults) place h = record { counted = h; shut = tt; ahead = below_none known out (onward known (Empty faults)) }
reset known out (Round c n tests) place h = record {
  counted = h;
  shut = (h.0, λ j lt. shut_pass known out (candidate c n j).set (h.1 j lt));
  ahead = below_none known out (onward known (Round c n tests));
}
reset known out (End r) place h = record { counted = h; shut = tt; ahead = tt }
