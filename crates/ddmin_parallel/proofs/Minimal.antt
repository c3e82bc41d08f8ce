use Rattle.std.proofs.Common.{◌≡◌, ℕ, zero, suc, ◌+◌, ◌-◌, ◌*◌, ◌<◌, ◌≤◌, Bool, true, false, List, [], ◌∷◌, ◌++◌, length, map, refl, sym, ◌∙◌, ap, subst, arith}
use Rattle.std.proofs.Common.{ltb, leb, max, min, cond, add-one, add-zero, zero-add}
use Rattle.std.specs.Prelude.{remove}
use Rattle.std.specs.List.{range_with_len, AllByRecursion}
use Rattle.std.proofs.lemmas.Bool.{leb-true, ltb-true}
use Rattle.std.proofs.lemmas.Bool.Decides.{nat_tests}
use Rattle.std.proofs.lemmas.List.FromFn.{length-range_with_len}
use Rattle.std.proofs.Math.Nat.{mul-div_left}
use Rattle.ddmin_parallel.specs.Rounds.{cut, part, complement, Candidate, round}
use Rattle.ddmin_parallel.specs.Ddmin.{Decision, Fails, NoneFails, counted, decide, Reduced, kept_after, after_round, ddmin_within, rank, Fits, ddmin2, ddmin}
use Rattle.ddmin_parallel.specs.OneMinimal.{IsOneMinimal}
use Rattle.ddmin_parallel.proofs.Rounds.{IsNext, IfFails, decide_all, round_next, rank_next}

-- ---- what a decision says of the candidates

-- what fails, fails
pub decide_fails : (test : List ℕ → Bool) (ss : List Candidate) (tests : ℕ) → IfFails (decide test ss tests) (λ s _. test s.set ≡ true)
decide_fails test [] tests = tt
decide_fails test (s ∷ ss) tests = at (decide_fails test ss (counted tests)) (test s.set) refl
  where
    at : IfFails (decide test ss (counted tests)) (λ s _. test s.set ≡ true) → (b : Bool) → test s.set ≡ b
        → IfFails (elim b [ true ↦ Fails s (counted tests) | false ↦ decide test ss (counted tests) ]) (λ s _. test s.set ≡ true)
    at rest true is = is
    at rest false is = rest

abbrev pub IfNoneFails : Decision → Type 0 → Type 0
IfNoneFails (Fails s tests) P = Unit {0}
IfNoneFails (NoneFails tests) P = P

-- If none fails, each was looked at.
pub decide_none : (test : List ℕ → Bool) (ss : List Candidate) (tests : ℕ) → IfNoneFails (decide test ss tests) (AllByRecursion (λ s. test s.set ≡ false) ss)
decide_none test [] tests = tt
decide_none test (s ∷ ss) tests = at (decide test ss (counted tests)) (decide_none test ss (counted tests)) (test s.set) refl
  where
    at : (d : Decision) → IfNoneFails d (AllByRecursion (λ s. test s.set ≡ false) ss) → (b : Bool) → test s.set ≡ b
        → IfNoneFails (elim b [ true ↦ Fails s (counted tests) | false ↦ d ]) (AllByRecursion (λ s. test s.set ≡ false) (s ∷ ss))
    at d rest true is = tt
    at (Fails s' looked) rest false is = tt
    at (NoneFails looked) rest false is = (is, rest)

-- ---- the finest round leaves out one member each

cut_finest : (c : List ℕ) (i : ℕ) → 0 < length c → cut c (length c) i ≡ i
cut_finest c i pos = mul-div_left i pos

complement_finest : (c : List ℕ) (i : ℕ) → 0 < length c → complement c (length c) i ≡ remove c i
unfolding complement
complement_finest c i pos = rw (cut_finest c i pos, cut_finest c (i + 1) pos, add-one) refl

mapped_at : {X : Type 0} (P : X → Type 0) (f : ℕ → X) (a n : ℕ) → AllByRecursion P (map f (range_with_len a n)) → (i : ℕ) → i < n → P (f (a + i))
mapped_at P f a zero h i lt = absurd (omega arith)
mapped_at P f a (suc n) h zero lt = rw add-zero (h.0)
mapped_at P f a (suc n) h (suc i) lt =
    let same : a + 1 + i ≡ a + suc i = omega arith in
    subst (λ k. P (f k)) same (mapped_at P f (a + 1) n h.1 i (omega arith))

back_of : {X : Type 0} (P : X → Type 0) (xs ys : List X) → AllByRecursion P (xs ++ ys) → AllByRecursion P ys
back_of P [] ys h = h
back_of P (x ∷ xs) ys h = back_of P xs ys h.1

-- If no candidate of the finest round fails, no member can be left out.
finest_complements : (test : List ℕ → Bool) (c : List ℕ) → 2 < length c → AllByRecursion (λ s. test s.set ≡ false) (round c (length c))
    → (i : ℕ) → i < length c → test (remove c i) ≡ false
unfolding round
finest_complements test c long all i lt =
    let P : Candidate → Type 0 = λ s. test s.set ≡ false in
    let f : ℕ → Candidate = λ i. record { set = complement c (length c) i; parts = max (length c - 1) 2 } in
    let back = back_of P _ (cond (ltb 2 (length c)) (map f (range_with_len 0 (length c))) []) all in
    let is : ltb 2 (length c) ≡ true = grind (arith, nat_tests) in
    let rest : AllByRecursion P (map f (range_with_len 0 (length c))) = subst
    (λ b. AllByRecursion P (cond b (map f (range_with_len 0 (length c))) [])) is back in
    let here : test (complement c (length c) (0 + i)) ≡ false = mapped_at P f 0 (length c) rest i lt in
    ap test (sym (ap (complement c (length c)) (zero-add i) ∙ complement_finest c i (omega arith))) ∙ here

-- with two members each part is what the other's absence leaves
finest_parts : (test : List ℕ → Bool) (c : List ℕ) → length c ≡ 2 → AllByRecursion (λ s. test s.set ≡ false) (round c 2)
    → (i : ℕ) → i < length c → test (remove c i) ≡ false
unfolding round part
finest_parts test [] len all i lt = absurd (omega arith)
finest_parts test (a ∷ []) len all i lt = absurd (omega arith)
finest_parts test (a ∷ b ∷ []) len all zero lt = all.1.0
finest_parts test (a ∷ b ∷ []) len all (suc zero) lt = all.0
finest_parts test (a ∷ b ∷ []) len all (suc (suc i)) lt = absurd (omega arith)
finest_parts test (a ∷ b ∷ c ∷ cs) len all i lt = absurd (omega arith)

-- a set of one member
single : (test : List ℕ → Bool) (c : List ℕ) → length c ≡ 1 → test [] ≡ false → (i : ℕ) → i < length c → test (remove c i) ≡ false
single test [] len empty i lt = absurd (omega arith)
single test (a ∷ []) len empty zero lt = empty
single test (a ∷ []) len empty (suc i) lt = absurd (omega arith)
single test (a ∷ b ∷ c) len empty i lt = absurd (omega arith)

abbrev KeepsMinimal : (List ℕ → Bool) → Reduced → Type 0
KeepsMinimal test r = IsOneMinimal test r.kept

pub within_minimal : (r : ℕ) (test : List ℕ → Bool) (c : List ℕ) (n tests : ℕ) → Fits c n → rank c n < r → test c ≡ true → test [] ≡ false
    → IsOneMinimal test (ddmin_within r test c n tests).kept
unfolding ddmin_within
within_minimal zero test c n tests fits lt fails empty = absurd (omega arith)
within_minimal (suc r) test c n tests fits lt fails empty =
    at (λ c' n' t' f l fa. within_minimal r test c' n' t' f l fa empty) (leb (length c) 1) refl
  where
    Deeper : Type 0
    Deeper = (c' : List ℕ) (n' t' : ℕ) → Fits c' n' → rank c' n' < r → test c' ≡ true → IsOneMinimal test (ddmin_within r test c' n' t').kept

    on : Deeper → (looked : ℕ) → 2 ≤ length c → AllByRecursion (λ s. test s.set ≡ false) (round c n) → (b : Bool) → ltb n (length c) ≡ b
        → KeepsMinimal test (elim b [ true ↦ ddmin_within r test c (min (length c) (2 * n)) looked | false ↦ kept_after c looked ])
    on deeper looked long none true is =
        let below = ltb-true n (length c) is in
        let two = fits.two in
        deeper c (min (length c) (2 * n)) looked (record { two = omega arith; some = omega arith; few = omega arith }) (omega arith) fails
    on deeper looked long none false is =
        let few = fits.few long in
        let two = fits.two in
        let above : length c ≤ n = grind (arith, nat_tests) in
        let same : n ≡ length c = omega arith in
        let none' : AllByRecursion (λ s. test s.set ≡ false) (round c (length c)) =
        subst (λ k. AllByRecursion (λ s. test s.set ≡ false) (round c k)) same none in
        record { fails = fails; each = sizes none' (ltb 2 (length c)) refl }
      where
        sizes : AllByRecursion (λ s. test s.set ≡ false) (round c (length c)) → (b : Bool) → ltb 2 (length c) ≡ b → (i : ℕ) → i < length c
            → test (remove c i) ≡ false
        sizes none' true is = finest_complements test c (ltb-true 2 (length c) is) none'
        sizes none' false is =
            let two : length c ≡ 2 = grind (arith, nat_tests) in
            finest_parts test c two (subst (λ k. AllByRecursion (λ s. test s.set ≡ false) (round c k)) two none')

    after : Deeper → (d : Decision) → 2 ≤ length c → IfFails d (λ s _. IsNext c s) → IfFails d (λ s _. test s.set ≡ true)
        → IfNoneFails d (AllByRecursion (λ s. test s.set ≡ false) (round c n)) → IsOneMinimal test (after_round (ddmin_within r test) c n d).kept
    after deeper (Fails s looked) long next bad none =
        let below = rank_next c s.set n s.parts next.shorter in
        deeper s.set s.parts looked next.fits (omega arith) bad
    after deeper (NoneFails looked) long next bad none = on deeper looked long none (ltb n (length c)) refl

    at : Deeper → (b : Bool) → leb (length c) 1 ≡ b
        → KeepsMinimal test (elim b [ true ↦ kept_after c tests | false ↦ after_round (ddmin_within r test) c n (decide test (round c n) tests) ])
    at deeper true is =
        let short = leb-true (length c) 1 is in
        let some = fits.some in
        record { fails = fails; each = single test c (omega arith) empty }
    at deeper false is =
        let long : 2 ≤ length c = grind (arith, nat_tests) in
        after deeper (decide test (round c n) tests) long
        (decide_all (IsNext c) test (round c n) tests (round_next c n fits.two (fits.few long)))
        (decide_fails test (round c n) tests) (decide_none test (round c n) tests)

pub minimal : (test : List ℕ → Bool) (faults : ℕ) → test (range_with_len 0 faults) ≡ true → IsOneMinimal test (ddmin test faults).kept
unfolding ddmin ddmin2
minimal test zero fails = record { fails = fails; each = λ i lt. absurd (omega arith) }
minimal test (suc more) fails = at (test []) refl
  where
    at : (b : Bool) → test [] ≡ b → KeepsMinimal test (elim b [ true ↦ kept_after [] 1 | false ↦ ddmin2 test (range_with_len 0 (suc more)) 2 1 ])
    at true is = record { fails = is; each = λ i lt. absurd (omega arith) }
    at false is =
        let c = range_with_len 0 (suc more) in
        let len : length (range_with_len 0 (suc more)) ≡ suc more = length-range_with_len 0 (suc more) in
        within_minimal (suc (rank c 2)) test c 2 1 (record { two = omega arith; some = omega arith; few = omega arith }) (omega arith) fails is

-- so what is reduced to is one-minimal
pub minimal_result : (test : List ℕ → Bool) (faults : ℕ) (r : Reduced) → r ≡ ddmin test faults → test (range_with_len 0 faults) ≡ true
    → IsOneMinimal test r.kept
minimal_result test faults r is fails = subst (λ (q : Reduced). IsOneMinimal test q.kept) (sym is) (minimal test faults fails)
