use Rattle.std.proofs.Common.{◌≡◌, ℕ, zero, suc, ◌+◌, ◌-◌, ◌*◌, ◌/◌, ◌<◌, ◌≤◌, Bool, true, false, List, [], ◌∷◌, ◌++◌, length, take, drop, map, refl, ltb, leb}
use Rattle.std.proofs.Common.{max, min, cond, arith}
use Rattle.std.specs.List.{range_with_len, AllByRecursion}
use Rattle.std.proofs.Math.Nat.{le-div_iff_mul-le, div-mul-le_self}
use Rattle.ddmin_parallel.specs.Rounds.{cut, part, complement, Candidate, round}
use Rattle.ddmin_parallel.specs.Ddmin.{Decision, Fails, NoneFails, decide, Reduced, kept_after, after_round, ddmin_within, rank, ddmin2, ddmin}
use Rattle.ddmin_parallel.specs.Sublists.{IsSublist, Both, Left, Done, Ascends}
use Rattle.ddmin_parallel.proofs.Rounds.{IfFails, decide_all}

-- what each part and each complement has
pub record IsKept (P : List ℕ → Type 0) : Type 0 where
  pub parts : (c : List ℕ) (n i : ℕ) → P c → P (part c n i)
  pub complements : (c : List ℕ) (n i : ℕ) → 0 < n → P c → P (complement c n i)

mapped : (P : List ℕ → Type 0) (f : ℕ → Candidate) (a n : ℕ) → ((i : ℕ) → i < a + n → P (f i).set) → AllByRecursion (λ s. P s.set) (map f (range_with_len a n))
mapped P f a zero h = tt
mapped P f a (suc n) h = (h a (omega arith), mapped P f (a + 1) n (λ i lt. h i (omega arith)))

joined : (P : List ℕ → Type 0) (xs ys : List Candidate) → AllByRecursion (λ s. P s.set) xs → AllByRecursion (λ s. P s.set) ys
    → AllByRecursion (λ s. P s.set) (xs ++ ys)
joined P [] ys h k = k
joined P (x ∷ xs) ys h k = (h.0, joined P xs ys h.1 k)

round_keeps : (P : List ℕ → Type 0) → IsKept P → (c : List ℕ) (n : ℕ) → P c → AllByRecursion (λ s. P s.set) (round c n)
unfolding round
round_keeps P keeps c n p =
    joined P _ _ (mapped P (λ i. record { set = part c n i; parts = 2 }) 0 n (λ i lt. keeps.parts c n i p)) (at (ltb 2 n))
  where
    at : (b : Bool) → AllByRecursion {X = Candidate} (λ s. P s.set) (cond b
        (map (λ i. record { set = complement c n i; parts = max (n - 1) 2 }) (range_with_len 0 n)) [])
    at true = mapped P (λ i. record { set = complement c n i; parts = max (n - 1) 2 }) 0 n (λ i lt. keeps.complements c n i (omega arith) p)
    at false = tt

abbrev Keeps : (List ℕ → Type 0) → Reduced → Type 0
Keeps P r = P r.kept

within_keeps : (P : List ℕ → Type 0) → IsKept P → (r : ℕ) (test : List ℕ → Bool) (c : List ℕ) (n tests : ℕ) → P c → Keeps P (ddmin_within r test c n tests)
unfolding ddmin_within
within_keeps P keeps zero test c n tests p = p
within_keeps P keeps (suc r) test c n tests p =
    at (λ c' n' t' p'. within_keeps P keeps r test c' n' t' p') (leb (length c) 1) (decide test (round c n) tests)
    (decide_all (λ (s : Candidate). P s.set) test (round c n) tests (round_keeps P keeps c n p))
  where
    Deeper : Type 0
    Deeper = (c' : List ℕ) (n' t' : ℕ) → P c' → Keeps P (ddmin_within r test c' n' t')

    on : Deeper → (looked : ℕ) (b : Bool) → Keeps P (elim b [ true ↦ ddmin_within r test c (min (length c) (2 * n)) looked | false ↦ kept_after c looked ])
    on deeper looked true = deeper c (min (length c) (2 * n)) looked p
    on deeper looked false = p

    after : Deeper → (d : Decision) → IfFails d (λ s _. P s.set) → Keeps P (after_round (ddmin_within r test) c n d)
    after deeper (Fails s looked) h = deeper s.set s.parts looked h
    after deeper (NoneFails looked) h = on deeper looked (ltb n (length c))

    at : Deeper → (b : Bool) (d : Decision) → IfFails d (λ s _. P s.set) → Keeps P
        (elim b [ true ↦ kept_after c tests | false ↦ after_round (ddmin_within r test) c n d ])
    at deeper true d h = p
    at deeper false d h = after deeper d h

-- ---- lists that ascend

all_drop : (Q : ℕ → Type 0) (k : ℕ) (xs : List ℕ) → AllByRecursion Q xs → AllByRecursion Q (drop k xs)
all_drop Q zero xs h = h
all_drop Q (suc k) [] h = tt
all_drop Q (suc k) (x ∷ xs) h = all_drop Q k xs h.1

all_take : (Q : ℕ → Type 0) (k : ℕ) (xs : List ℕ) → AllByRecursion Q xs → AllByRecursion Q (take k xs)
all_take Q zero xs h = tt
all_take Q (suc k) [] h = tt
all_take Q (suc k) (x ∷ xs) h = (h.0, all_take Q k xs h.1)

all_cut : (Q : ℕ → Type 0) (i j : ℕ) (xs : List ℕ) → AllByRecursion Q xs → AllByRecursion Q (take i xs ++ drop j xs)
all_cut Q zero j xs h = all_drop Q j xs h
all_cut Q (suc i) j [] h = all_drop Q j [] tt
all_cut Q (suc i) zero (x ∷ xs) h = (h.0, all_front (take i xs) (all_take Q i xs h.1))
  where
    all_front : (ys : List ℕ) → AllByRecursion Q ys → AllByRecursion Q (ys ++ x ∷ xs)
    all_front [] k = h
    all_front (y ∷ ys) k = (k.0, all_front ys k.1)
all_cut Q (suc i) (suc j) (x ∷ xs) h = (h.0, all_cut Q i j xs h.1)

ascends_drop : (k : ℕ) (xs : List ℕ) → Ascends xs → Ascends (drop k xs)
ascends_drop zero xs h = h
ascends_drop (suc k) [] h = tt
ascends_drop (suc k) (x ∷ xs) h = ascends_drop k xs h.1

ascends_take : (k : ℕ) (xs : List ℕ) → Ascends xs → Ascends (take k xs)
ascends_take zero xs h = tt
ascends_take (suc k) [] h = tt
ascends_take (suc k) (x ∷ xs) h = (all_take (λ y. x < y) k xs h.0, ascends_take k xs h.1)

ascends_cut : (i j : ℕ) (xs : List ℕ) → i ≤ j → Ascends xs → Ascends (take i xs ++ drop j xs)
ascends_cut zero j xs le h = ascends_drop j xs h
ascends_cut (suc i) zero xs le h = absurd (omega arith)
ascends_cut (suc i) (suc j) [] le h = tt
ascends_cut (suc i) (suc j) (x ∷ xs) le h = (all_cut (λ y. x < y) i j xs h.0, ascends_cut i j xs (omega arith) h.1)

cut_rises : (c : List ℕ) (n i : ℕ) → 0 < n → cut c n i ≤ cut c n (i + 1)
cut_rises c n i pos =
    let q = i * length c / n in
    let low : q * n ≤ i * length c = div-mul-le_self (i * length c) n in
    (le-div_iff_mul-le pos).1 (omega (arith, low))

abbrev AreFaults : ℕ → List ℕ → Type 0
AreFaults faults c = Ascends c × AllByRecursion (λ x. x < faults) c

kept_faults : (faults : ℕ) → IsKept (AreFaults faults)
unfolding part complement
kept_faults faults = record {
  parts = λ c n i p. let d = drop (cut c n i) c in (
    ascends_take (cut c n (i + 1) - cut c n i) d (ascends_drop (cut c n i) c p.0),
    all_take (λ x. x < faults) (cut c n (i + 1) - cut c n i) d (all_drop (λ x. x < faults) (cut c n i) c p.1),
  );
  complements = λ c n i pos p. (
    ascends_cut (cut c n i) (cut c n (i + 1)) c (cut_rises c n i pos) p.0,
    all_cut (λ x. x < faults) (cut c n i) (cut c n (i + 1)) c p.1,
  );
}

above : (a b m : ℕ) → b < a → AllByRecursion (λ y. b < y) (range_with_len a m)
above a b zero lt = tt
above a b (suc m) lt = (lt, above (a + 1) b m (omega arith))

range_ascends : (a m : ℕ) → Ascends (range_with_len a m)
range_ascends a zero = tt
range_ascends a (suc m) = (above (a + 1) a m (omega arith), range_ascends (a + 1) m)

below : (a m k : ℕ) → a + m ≤ k → AllByRecursion (λ x. x < k) (range_with_len a m)
below a zero k le = tt
below a (suc m) k le = (omega arith, below (a + 1) m k (omega arith))

pub kept_are_faults : (test : List ℕ → Bool) (faults : ℕ) → AreFaults faults (ddmin test faults).kept
unfolding ddmin ddmin2
kept_are_faults test zero = (tt, tt)
kept_are_faults test (suc more) = at (test [])
  where
    at : (b : Bool) → Keeps (AreFaults (suc more)) (elim b [ true ↦ kept_after [] 1 | false ↦ ddmin2 test (range_with_len 0 (suc more)) 2 1 ])
    at true = (tt, tt)
    at false = within_keeps (AreFaults (suc more)) (kept_faults (suc more)) (suc (rank (range_with_len 0 (suc more)) 2)) test (range_with_len 0 (suc more)) 2 1
        (range_ascends 0 (suc more), below 0 (suc more) (suc more) (omega arith))

-- ---- lists with some members left out

sublist_all : (xs : List ℕ) → IsSublist xs xs
sublist_all [] = Done
sublist_all (x ∷ xs) = Both x (sublist_all xs)

sublist_none : (xs : List ℕ) → IsSublist [] xs
sublist_none [] = Done
sublist_none (x ∷ xs) = Left x (sublist_none xs)

sublist_of : (xs ys zs : List ℕ) → IsSublist xs ys → IsSublist ys zs → IsSublist xs zs
sublist_of _ _ _ h (Left y k) = Left y (sublist_of _ _ _ h k)
sublist_of _ _ _ (Both x h) (Both y k) = Both x (sublist_of _ _ _ h k)
sublist_of _ _ _ (Left x h) (Both y k) = Left y (sublist_of _ _ _ h k)
sublist_of _ _ _ h Done = h

sublist_drop : (k : ℕ) (xs : List ℕ) → IsSublist (drop k xs) xs
sublist_drop zero xs = sublist_all xs
sublist_drop (suc k) [] = Done
sublist_drop (suc k) (x ∷ xs) = Left x (sublist_drop k xs)

sublist_take : (k : ℕ) (xs : List ℕ) → IsSublist (take k xs) xs
sublist_take zero xs = sublist_none xs
sublist_take (suc k) [] = Done
sublist_take (suc k) (x ∷ xs) = Both x (sublist_take k xs)

sublist_cut : (i j : ℕ) (xs : List ℕ) → i ≤ j → IsSublist (take i xs ++ drop j xs) xs
sublist_cut zero j xs le = sublist_drop j xs
sublist_cut (suc i) zero xs le = absurd (omega arith)
sublist_cut (suc i) (suc j) [] le = Done
sublist_cut (suc i) (suc j) (x ∷ xs) le = Both x (sublist_cut i j xs (omega arith))

sublists_keep : (all : List ℕ) → IsKept (λ c. IsSublist c all)
unfolding part complement
sublists_keep all = record {
  parts = λ c n i p. let d = drop (cut c n i) c in sublist_of _ _ _ (sublist_take (cut c n (i + 1) - cut c n i) d)
      (sublist_of _ _ _ (sublist_drop (cut c n i) c) p);
  complements = λ c n i pos p. sublist_of _ _ _ (sublist_cut (cut c n i) (cut c n (i + 1)) c (cut_rises c n i pos)) p;
}

pub kept_sublist : (test : List ℕ → Bool) (faults : ℕ) → IsSublist (ddmin test faults).kept (range_with_len 0 faults)
unfolding ddmin ddmin2
kept_sublist test zero = Done
kept_sublist test (suc more) = at (test [])
  where
    at : (b : Bool) → Keeps (λ c. IsSublist c (range_with_len 0 (suc more)))
        (elim b [ true ↦ kept_after [] 1 | false ↦ ddmin2 test (range_with_len 0 (suc more)) 2 1 ])
    at true = sublist_none (range_with_len 0 (suc more))
    at false = within_keeps (λ c. IsSublist c (range_with_len 0 (suc more))) (sublists_keep (range_with_len 0 (suc more)))
        (suc (rank (range_with_len 0 (suc more)) 2)) test (range_with_len 0 (suc more)) 2 1
        (sublist_all (range_with_len 0 (suc more)))

pub nothing_kept : (test : List ℕ → Bool) (faults : ℕ) → test [] ≡ true → (ddmin test faults).kept ≡ []
unfolding ddmin
nothing_kept test zero is = refl
nothing_kept test (suc more) is = rw (is, ddmin) refl
