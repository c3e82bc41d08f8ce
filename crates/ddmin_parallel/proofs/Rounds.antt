use Rattle.std.proofs.Common.{◌≡◌, ℕ, zero, suc, ◌+◌, ◌-◌, ◌*◌, ◌/◌, ◌<◌, ◌≤◌, Bool, true, false, List, [], ◌∷◌, ◌++◌, length, take, drop, map, refl, ap, arith}
use Rattle.std.proofs.Common.{length-append, length-drop, ltb, leb, max, min, cond}
use Rattle.std.specs.List.{range_with_len, AllByRecursion}
use Rattle.std.proofs.Math.Nat.{le-div_iff_mul-le, div-mul-le_self, mul-le-mul_left, mul-le-mul_right, mul-div_cancel_left}
use Rattle.std.proofs.lemmas.Bool.{ltb-true}
use Rattle.std.proofs.lemmas.Bool.Decides.{nat_tests}
use Rattle.std.proofs.lemmas.List.{length-take-le}
use Rattle.ddmin_parallel.specs.Rounds.{cut, part, complement, Candidate, round}
use Rattle.ddmin_parallel.specs.Ddmin.{Decision, Fails, NoneFails, counted, decide, Reduced, kept_after, after_round, one_round, ddmin_within, rank, Fits}
use Rattle.ddmin_parallel.specs.Ddmin.{ddmin2}

-- each part takes at least one
cut_step : (c : List ℕ) (n i : ℕ) → 0 < n → n ≤ length c → cut c n i + 1 ≤ cut c n (i + 1)
cut_step c n i pos few =
    let q = i * length c / n in
    let low : q * n ≤ i * length c = div-mul-le_self (i * length c) n in
    (le-div_iff_mul-le pos).1 (omega (arith, low))

cut_steps : (c : List ℕ) (n i k : ℕ) → 0 < n → n ≤ length c → cut c n i + k ≤ cut c n (i + k)
cut_steps c n i zero pos few =
    let same : cut c n (i + 0) ≡ cut c n i = ap (cut c n) (omega arith) in
    omega arith
cut_steps c n i (suc k) pos few =
    let more = cut_steps c n i k pos few in
    let one = cut_step c n (i + k) pos few in
    let same : cut c n (i + suc k) ≡ cut c n (i + k + 1) = ap (cut c n) (omega arith) in
    omega arith

cut_all : (c : List ℕ) (n : ℕ) → 0 < n → cut c n n ≡ length c
cut_all c n pos = mul-div_cancel_left (length c) pos

cut_from : (c : List ℕ) (n i : ℕ) → 0 < n → n ≤ length c → i ≤ cut c n i
cut_from c n i pos few =
    let more = cut_steps c n 0 i pos few in
    let same : cut c n (0 + i) ≡ cut c n i = ap (cut c n) (omega arith) in
    omega arith

cut_to : (c : List ℕ) (n i : ℕ) → 0 < n → n ≤ length c → i ≤ n → cut c n i + (n - i) ≤ length c
cut_to c n i pos few low =
    let more = cut_steps c n i (n - i) pos few in
    let same : cut c n (i + (n - i)) ≡ cut c n n = ap (cut c n) (omega arith) in
    let all = cut_all c n pos in
    omega arith

-- a candidate is shorter than the set that it comes from, and may be gone on with
pub record IsNext (c : List ℕ) (s : Candidate) : Type 0 where
  pub shorter : length s.set < length c
  pub fits : Fits s.set s.parts

part_length : (c : List ℕ) (n i : ℕ) → 0 < n → n ≤ length c → i < n → length (part c n i) ≡ cut c n (i + 1) - cut c n i
unfolding part
part_length c n i pos few low =
    let high = cut_to c n (i + 1) pos few (omega arith) in
    length-take-le (cut c n (i + 1) - cut c n i) (drop (cut c n i) c) (omega (arith, length-drop (cut c n i) c))

complement_length : (c : List ℕ) (n i : ℕ) → 0 < n → n ≤ length c → i < n → length (complement c n i) ≡ cut c n i + (length c - cut c n (i + 1))
unfolding complement
complement_length c n i pos few low =
    let high = cut_to c n i pos few (omega arith) in
    let front : length (take (cut c n i) c) ≡ cut c n i = length-take-le (cut c n i) c (omega arith) in
    omega (arith, length-append (take (cut c n i) c) (drop (cut c n (i + 1)) c), length-drop (cut c n (i + 1)) c)

part_next : (c : List ℕ) (n i : ℕ) → 2 ≤ n → n ≤ length c → i < n → IsNext c (record { set = part c n i; parts = 2 })
part_next c n i two few low =
    let len = part_length c n i (omega arith) few low in
    let from = cut_from c n i (omega arith) few in
    let to = cut_to c n (i + 1) (omega arith) few (omega arith) in
    let one = cut_step c n i (omega arith) few in
    record { shorter = omega arith; fits = record { two = omega arith; some = omega arith; few = omega arith } }

complement_next : (c : List ℕ) (n i : ℕ) → 2 < n → n ≤ length c → i < n → IsNext c (record { set = complement c n i; parts = max (n - 1) 2 })
complement_next c n i two few low =
    let len = complement_length c n i (omega arith) few low in
    let from = cut_from c n i (omega arith) few in
    let to = cut_to c n (i + 1) (omega arith) few (omega arith) in
    let one = cut_step c n i (omega arith) few in
    record { shorter = omega arith; fits = record { two = omega arith; some = omega arith; few = omega arith } }

all_mapped : {X : Type 0} (P : X → Type 0) (f : ℕ → X) (a n : ℕ) → ((i : ℕ) → a ≤ i → i < a + n → P (f i)) → AllByRecursion P (map f (range_with_len a n))
all_mapped P f a zero h = tt
all_mapped P f a (suc n) h = (h a (omega arith) (omega arith), all_mapped P f (a + 1) n (λ i low high. h i (omega arith) (omega arith)))

all_joined : {X : Type 0} (P : X → Type 0) (xs ys : List X) → AllByRecursion P xs → AllByRecursion P ys → AllByRecursion P (xs ++ ys)
all_joined P [] ys h k = k
all_joined P (x ∷ xs) ys h k = (h.0, all_joined P xs ys h.1 k)

pub round_next : (c : List ℕ) (n : ℕ) → 2 ≤ n → n ≤ length c → AllByRecursion (IsNext c) (round c n)
unfolding round
round_next c n two few =
    all_joined (IsNext c) _ _
    (all_mapped (IsNext c) (λ i. record { set = part c n i; parts = 2 }) 0 n (λ i _ high. part_next c n i two few (omega arith)))
    (rest (ltb 2 n) refl)
  where
    rest : (b : Bool) → ltb 2 n ≡ b
        → AllByRecursion (IsNext c) (cond b (map (λ i. record { set = complement c n i; parts = max (n - 1) 2 }) (range_with_len 0 n)) [])
    rest true is = all_mapped (IsNext c) (λ i. record { set = complement c n i; parts = max (n - 1) 2 }) 0 n
        (λ i _ high. complement_next c n i (ltb-true 2 n is) few (omega arith))
    rest false is = tt

-- what a round finds failing is one of its candidates
abbrev pub IfFails : Decision → (Candidate → ℕ → Type 0) → Type 0
IfFails (Fails s tests) P = P s tests
IfFails (NoneFails tests) P = Unit {0}

pub decide_all : (P : Candidate → Type 0) (test : List ℕ → Bool) (ss : List Candidate) (tests : ℕ) → AllByRecursion P ss
    → IfFails (decide test ss tests) (λ s _. P s)
decide_all P test [] tests all = tt
decide_all P test (s ∷ ss) tests all = at (decide_all P test ss (counted tests) all.1) (test s.set)
  where
    at : IfFails (decide test ss (counted tests)) (λ s _. P s) → (b : Bool)
        → IfFails (elim b [ true ↦ Fails s (counted tests) | false ↦ decide test ss (counted tests) ]) (λ s _. P s)
    at rest true = all.0
    at rest false = rest

-- ---- ddmin2 is the rule, without a bound on the rounds

square : (a b : ℕ) → a < b → a * a + a < b * b
square a b h =
    let p : a * (a + 1) ≤ a * b = mul-le-mul_left a (omega arith) in
    let q : (a + 1) * b ≤ b * b = mul-le-mul_right b (omega arith) in
    omega (arith, p, q)

pub rank_next : (c s : List ℕ) (n k : ℕ) → length s < length c → rank s k < rank c n
rank_next c s n k h = omega (arith, square (length s) (length c) h)

pub one_round_same : (go go' : List ℕ → ℕ → ℕ → Reduced) (test : List ℕ → Bool) (c : List ℕ) (n tests : ℕ) → Fits c n
    → ((s : List ℕ) (k t : ℕ) → Fits s k → rank s k < rank c n → go s k t ≡ go' s k t)
    → one_round go test c n tests ≡ one_round go' test c n tests
one_round_same go go' test c n tests fits same = at (leb (length c) 1) refl
  where
    after : (d : Decision) → 2 ≤ length c → IfFails d (λ s _. IsNext c s) → after_round go c n d ≡ after_round go' c n d
    after (Fails s looked) long next = same s.set s.parts looked next.fits (rank_next c s.set n s.parts next.shorter)
    after (NoneFails looked) long next = on (ltb n (length c)) refl
      where
        on : (b : Bool) → ltb n (length c) ≡ b →
            ◌≡◌ {A = Reduced} (elim b [ true ↦ go c (min (length c) (2 * n)) looked | false ↦ kept_after c looked ])
            (elim b [ true ↦ go' c (min (length c) (2 * n)) looked | false ↦ kept_after c looked ])
        on true is =
            let lt = ltb-true n (length c) is in
            let two = fits.two in
            same c (min (length c) (2 * n)) looked (record { two = omega arith; some = omega arith; few = omega arith }) (omega arith)
        on false is = refl

    at : (b : Bool) → leb (length c) 1 ≡ b →
        ◌≡◌ {A = Reduced} (elim b [ true ↦ kept_after c tests | false ↦ after_round go c n (decide test (round c n) tests) ])
        (elim b [ true ↦ kept_after c tests | false ↦ after_round go' c n (decide test (round c n) tests) ])
    at true is = refl
    at false is =
        let long : 2 ≤ length c = grind (arith, nat_tests) in
        after (decide test (round c n) tests) long (decide_all (IsNext c) test (round c n) tests (round_next c n fits.two (fits.few long)))

within_same : (r r' : ℕ) (test : List ℕ → Bool) (c : List ℕ) (n tests : ℕ) → Fits c n → rank c n < r → rank c n < r'
    → ddmin_within r test c n tests ≡ ddmin_within r' test c n tests
unfolding ddmin_within
within_same zero r' test c n tests fits h h' = absurd (omega arith)
within_same (suc r) zero test c n tests fits h h' = absurd (omega arith)
within_same (suc r) (suc r') test c n tests fits h h' =
    one_round_same (ddmin_within r test) (ddmin_within r' test) test c n tests fits
    (λ s k t f lt. within_same r r' test s k t f (omega arith) (omega arith))

pub ddmin2_is : (test : List ℕ → Bool) (c : List ℕ) (n tests : ℕ) → Fits c n → ddmin2 test c n tests ≡ one_round (ddmin2 test) test c n tests
unfolding ddmin2 ddmin_within
ddmin2_is test c n tests fits =
    one_round_same (ddmin_within (rank c n) test) (λ s k t. ddmin_within (suc (rank s k)) test s k t) test c n tests fits
    (λ s k t f lt. within_same (rank c n) (suc (rank s k)) test s k t f lt (omega arith))
