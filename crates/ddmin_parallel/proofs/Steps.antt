use Rattle.std.proofs.Common.{◌≡◌, ℕ, zero, suc, ◌+◌, ◌-◌, ◌*◌, ◌<◌, ◌≤◌, Bool, true, false, List, [], ◌∷◌, ◌++◌, length, map, refl, sym, ◌∙◌, ap, subst, arith}
use Rattle.std.proofs.Common.{ltb, leb, max, min, cond, add-zero, zero-add, append-nil}
use Rattle.std.specs.List.{range_with_len}
use Rattle.std.proofs.lemmas.Bool.{le-leb, lt-ltb}
use Rattle.std.proofs.lemmas.Bool.Decides.{nat_tests}
use Rattle.std.proofs.lemmas.List.FromFn.{length-range_with_len}
use Rattle.ddmin_parallel.specs.Rounds.{part, complement, Candidate, round}
use Rattle.ddmin_parallel.specs.inside.Candidates.{candidate, candidates}
use Rattle.ddmin_parallel.specs.Ddmin.{Fails, NoneFails, counted, decide, kept_after, after_round, one_round, Fits, ddmin2, ddmin}
use Rattle.ddmin_parallel.proofs.Rounds.{IsNext, IfFails, decide_all, round_next, ddmin2_is}

-- ---- a round by the numbers of its candidates

-- the candidates from candidate k on
abbrev pub from : List ℕ → ℕ → ℕ → List Candidate
from c n k = map (candidate c n) (range_with_len k (candidates n - k))

range_more : (a m k : ℕ) → range_with_len a (m + k) ≡ range_with_len a m ++ range_with_len (a + m) k
range_more a zero k = rw (zero-add, add-zero) refl
range_more a (suc m) k =
    let same : suc m + k ≡ suc (m + k) = omega arith in
    let there : a + 1 + m ≡ a + suc m = omega arith in
    ap (range_with_len a) same ∙ ap (λ xs. a ∷ xs) (range_more (a + 1) m k) ∙ ap (λ b. a ∷ (range_with_len (a + 1) m ++ range_with_len b k)) there

pub range_push : (a m : ℕ) → range_with_len a (m + 1) ≡ range_with_len a m ++ (a + m) ∷ []
range_push a m = range_more a m 1

same_mapped : {X : Type 0} (f g : ℕ → X) (a m : ℕ) → ((i : ℕ) → a ≤ i → i < a + m → f i ≡ g i) → map f (range_with_len a m) ≡ map g (range_with_len a m)
same_mapped f g a zero h = refl
same_mapped f g a (suc m) h =
    let here = h a (omega arith) (omega arith) in
    let rest = same_mapped f g (a + 1) m (λ i low high. h i (omega arith) (omega arith)) in
    cc

shifted : {X : Type 0} (f g : ℕ → X) (d a m : ℕ) → ((i : ℕ) → a ≤ i → i < a + m → f i ≡ g (d + i))
    → map f (range_with_len a m) ≡ map g (range_with_len (d + a) m)
shifted f g d a zero h = refl
shifted f g d a (suc m) h =
    let here = h a (omega arith) (omega arith) in
    let rest = shifted f g d (a + 1) m (λ i low high. h i (omega arith) (omega arith)) in
    let there : map g (range_with_len (d + (a + 1)) m) ≡ map g (range_with_len (d + a + 1) m) = ap (λ b. map g (range_with_len b m)) (omega arith) in
    cc

map_append : {X : Type 0} (f : ℕ → X) (xs ys : List ℕ) → map f (xs ++ ys) ≡ map f xs ++ map f ys
map_append f [] ys = refl
map_append f (x ∷ xs) ys = ap (λ zs. f x ∷ zs) (map_append f xs ys)

pub candidate_part : (c : List ℕ) (n k : ℕ) → k < n → candidate c n k ≡ record { set = part c n k; parts = 2 }
unfolding candidate
candidate_part c n k lt = rw (lt-ltb k n lt) refl

pub candidate_complement : (c : List ℕ) (n k : ℕ) → n ≤ k → candidate c n k ≡ record { set = complement c n (k - n); parts = max (n - 1) 2 }
unfolding candidate
candidate_complement c n k le =
    let no : ltb k n ≡ false = grind (arith, nat_tests) in
    rw no refl

pub round_is : (c : List ℕ) (n : ℕ) → round c n ≡ map (candidate c n) (range_with_len 0 (candidates n))
unfolding round
round_is c n =
    let parts : map (λ i. record { set = part c n i; parts = 2 }) (range_with_len 0 n) ≡ map (candidate c n) (range_with_len 0 n) =
    same_mapped _ (candidate c n) 0 n (λ i _ high. sym (candidate_part c n i (omega arith))) in
    rw parts (rest (ltb 2 n) refl)
  where
    rest : (b : Bool) → ltb 2 n ≡ b
        → map (candidate c n) (range_with_len 0 n) ++ cond b (map (λ i. record { set = complement c n i; parts = max (n - 1) 2 }) (range_with_len 0 n)) []
        ≡ map (candidate c n) (range_with_len 0 (cond b (2 * n) n))
    rest true is =
        let back : map (λ i. record { set = complement c n i; parts = max (n - 1) 2 }) (range_with_len 0 n) ≡ map (candidate c n) (range_with_len (n + 0) n) =
        shifted _ (candidate c n) n 0 n (λ i _ high.
        let same : n + i - n ≡ i = omega arith in
        sym (candidate_complement c n (n + i) (omega arith) ∙ ap (λ j. record { set = complement c n j; parts = max (n - 1) 2 }) same)) in
        let there : map (candidate c n) (range_with_len (n + 0) n) ≡ map (candidate c n) (range_with_len (0 + n) n) =
        ap (λ b. map (candidate c n) (range_with_len b n)) (omega arith) in
        let twice : range_with_len 0 (2 * n) ≡ range_with_len 0 (n + n) = ap (range_with_len 0) (omega arith) in
        rw (back, there) (sym (ap (map (candidate c n)) (twice ∙ range_more 0 n n) ∙ map_append (candidate c n) (range_with_len 0 n)
        (range_with_len (0 + n) n)))
    rest false is = append-nil (map (candidate c n) (range_with_len 0 n))

pub from_step : (c : List ℕ) (n k : ℕ) → k < candidates n → from c n k ≡ candidate c n k ∷ from c n (k + 1)
from_step c n k lt =
    let same : candidates n - k ≡ suc (candidates n - (k + 1)) = omega arith in
    ap (λ m. map (candidate c n) (range_with_len k m)) same

pub from_all : (c : List ℕ) (n : ℕ) → from c n 0 ≡ round c n
from_all c n =
    let same : candidates n - 0 ≡ candidates n = omega arith in
    ap (λ m. map (candidate c n) (range_with_len 0 m)) same ∙ sym (round_is c n)

pub decide_pass : (test : List ℕ → Bool) (c : List ℕ) (n k tests : ℕ) → k < candidates n → test (candidate c n k).set ≡ false
    → decide test (from c n k) tests ≡ decide test (from c n (k + 1)) (counted tests)
decide_pass test c n k tests lt is = ap (λ ss. decide test ss tests) (from_step c n k lt) ∙ rw (is, decide) refl

-- ---- how ddmin2 goes on

pub one_left : (test : List ℕ → Bool) (c : List ℕ) (n tests : ℕ) → Fits c n → length c ≤ 1 → ddmin2 test c n tests ≡ kept_after c tests
one_left test c n tests fits le = ddmin2_is test c n tests fits ∙ rw (le-leb (length c) 1 le, one_round) refl

unrolled : (test : List ℕ → Bool) (c : List ℕ) (n tests : ℕ) → Fits c n → 2 ≤ length c
    → ddmin2 test c n tests ≡ after_round (ddmin2 test) c n (decide test (round c n) tests)
unrolled test c n tests fits le =
    let no : leb (length c) 1 ≡ false = grind (arith, nat_tests) in
    ddmin2_is test c n tests fits ∙ rw (no, one_round) refl

pub on_failing : (test : List ℕ → Bool) (c : List ℕ) (n tests : ℕ) (s : Candidate) (looked : ℕ) → Fits c n → 2 ≤ length c
    → decide test (round c n) tests ≡ Fails s looked → ddmin2 test c n tests ≡ ddmin2 test s.set s.parts looked
on_failing test c n tests s looked fits le is = unrolled test c n tests fits le ∙ ap (after_round (ddmin2 test) c n) is

pub next_of : (test : List ℕ → Bool) (c : List ℕ) (n tests : ℕ) (s : Candidate) (looked : ℕ) → Fits c n → 2 ≤ length c
    → decide test (round c n) tests ≡ Fails s looked → IsNext c s
next_of test c n tests s looked fits le is =
    subst (λ d. IfFails d (λ s _. IsNext c s)) is (decide_all (IsNext c) test (round c n) tests (round_next c n fits.two (fits.few le)))

pub on_finer : (test : List ℕ → Bool) (c : List ℕ) (n tests looked : ℕ) → Fits c n → 2 ≤ length c → n < length c
    → decide test (round c n) tests ≡ NoneFails looked → ddmin2 test c n tests ≡ ddmin2 test c (min (length c) (2 * n)) looked
on_finer test c n tests looked fits le lt is = unrolled test c n tests fits le ∙ ap (after_round (ddmin2 test) c n) is
    ∙ rw (lt-ltb n (length c) lt, after_round) refl

pub finer_fits : (c : List ℕ) (n : ℕ) → Fits c n → n < length c → Fits c (min (length c) (2 * n))
finer_fits c n fits lt = let two = fits.two in record { two = omega arith; some = omega arith; few = omega arith }

pub on_end : (test : List ℕ → Bool) (c : List ℕ) (n tests looked : ℕ) → Fits c n → 2 ≤ length c → length c ≤ n
    → decide test (round c n) tests ≡ NoneFails looked → ddmin2 test c n tests ≡ kept_after c looked
on_end test c n tests looked fits le ge is =
    let no : ltb n (length c) ≡ false = grind (arith, nat_tests) in
    unrolled test c n tests fits le ∙ ap (after_round (ddmin2 test) c n) is ∙ rw (no, after_round) refl

-- ---- how ddmin begins

pub ddmin_none : (test : List ℕ → Bool) → ddmin test 0 ≡ kept_after [] 0
unfolding ddmin
ddmin_none test = refl

pub ddmin_empty : (test : List ℕ → Bool) (faults : ℕ) → 0 < faults → test [] ≡ true → ddmin test faults ≡ kept_after [] 1
unfolding ddmin
ddmin_empty test zero pos is = absurd (omega arith)
ddmin_empty test (suc more) pos is = rw (is, ddmin) refl

pub ddmin_begins : (test : List ℕ → Bool) (faults : ℕ) → 0 < faults → test [] ≡ false → ddmin test faults ≡ ddmin2 test (range_with_len 0 faults) 2 1
unfolding ddmin
ddmin_begins test zero pos is = absurd (omega arith)
ddmin_begins test (suc more) pos is = rw (is, ddmin) refl

pub begins_fits : (faults : ℕ) → 0 < faults → Fits (range_with_len 0 faults) 2
begins_fits faults pos =
    let len = length-range_with_len 0 faults in
    record { two = omega arith; some = omega arith; few = omega arith }
