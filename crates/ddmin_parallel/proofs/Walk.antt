use Rattle.std.proofs.Common.{◌≡◌, ℕ, zero, suc, ◌*◌, ◌<◌, ◌≤◌, Bool, true, false, List, [], ◌∷◌, length, refl, sym, ◌∙◌, ap, subst, arith, ltb, leb, min}
use Rattle.std.proofs.Common.{Option, None, Some, IfSome, unwrap_or}
use Rattle.std.specs.List.{range_with_len, AllByRecursion}
use Rattle.std.proofs.lemmas.Bool.{leb-true, ltb-true}
use Rattle.std.proofs.lemmas.Bool.Decides.{nat_tests}
use Rattle.std.proofs.lemmas.List.FromFn.{length-range_with_len}
use Rattle.ddmin_parallel.specs.Rounds.{Candidate, round}
use Rattle.ddmin_parallel.specs.Ddmin.{Decision, Fails, NoneFails, counted, decide, Reduced, kept_after, rank, Fits, ddmin2, ddmin}
use Rattle.ddmin_parallel.specs.CoreEvents.{Answers, decided, Position, Empty, Round, End, at_round, start, after_empty, after_decision, option_then, step}
use Rattle.ddmin_parallel.specs.CoreEvents.{position_rank, walk, furthest, finish, Agrees}
use Rattle.ddmin_parallel.specs.inside.CoreStates.{IsLawful, IsSmall}
use Rattle.ddmin_parallel.proofs.Rounds.{IsNext, IfFails, round_next, rank_next}
use Rattle.ddmin_parallel.proofs.Steps.{one_left, on_failing, on_finer, finer_fits, on_end, ddmin_none, ddmin_empty, ddmin_begins, begins_fits}

-- ---- what is decided is what a test that agrees decides

pub decided_agrees : (known : Answers) (test : List ℕ → Bool) → Agrees known test → (ss : List Candidate) (tests : ℕ)
    → IfSome (decided known ss tests) (λ d. decide test ss tests ≡ d)
decided_agrees known test agrees [] tests = refl
decided_agrees known test agrees (s ∷ ss) tests = at (decided known ss (counted tests)) (decided_agrees known test agrees ss (counted tests)) (known s.set) refl
  where
    at : (o : Option Decision) → IfSome o (λ d. decide test ss (counted tests) ≡ d) → (k : Option Bool) → known s.set ≡ k
        → IfSome (elim k [ None ↦ None | Some fails ↦ elim fails [ true ↦ Some (Fails s (counted tests)) | false ↦ o ] ]) (λ d. decide test (s ∷ ss) tests ≡ d)
    at o rest None is = tt
    at o rest (Some true) is = rw (agrees s.set true is, decide) refl
    at None rest (Some false) is = tt
    at (Some d) rest (Some false) is = rw (agrees s.set false is, decide) rest

-- some test agrees with what is known, so a decision has the candidates' properties
pub decided_all : (known : Answers) (P : Candidate → Type 0) (ss : List Candidate) (tests : ℕ) → AllByRecursion P ss
    → IfSome (decided known ss tests) (λ d. IfFails d (λ s _. P s))
decided_all known P [] tests all = tt
decided_all known P (s ∷ ss) tests all = at (decided known ss (counted tests)) (decided_all known P ss (counted tests) all.1) (known s.set)
  where
    at : (o : Option Decision) → IfSome o (λ d. IfFails d (λ s _. P s)) → (k : Option Bool)
        → IfSome (elim k [ None ↦ None | Some fails ↦ elim fails [ true ↦ Some (Fails s (counted tests)) | false ↦ o ] ]) (λ d. IfFails d (λ s _. P s))
    at o rest None = tt
    at o rest (Some true) = all.0
    at o rest (Some false) = rest

-- what is decided stays decided when more is known
pub decided_more : (known more : Answers) → ((s : List ℕ) (b : Bool) → known s ≡ Some b → more s ≡ Some b) → (ss : List Candidate) (tests : ℕ)
    → IfSome (decided known ss tests) (λ d. decided more ss tests ≡ Some d)
decided_more known more grows [] tests = refl
decided_more known more grows (s ∷ ss) tests = at (decided known ss (counted tests)) (decided_more known more grows ss (counted tests)) (known s.set) refl
  where
    at : (o : Option Decision) → IfSome o (λ d. decided more ss (counted tests) ≡ Some d) → (k : Option Bool) → known s.set ≡ k
        → IfSome (elim k [ None ↦ None | Some fails ↦ elim fails [ true ↦ Some (Fails s (counted tests)) | false ↦ o ] ])
        (λ d. decided more (s ∷ ss) tests ≡ Some d)
    at o rest None is = tt
    at o rest (Some true) is = rw (grows s.set true is, decided) refl
    at None rest (Some false) is = tt
    at (Some d) rest (Some false) is = rw (grows s.set false is, decided) rest

-- ---- a step keeps the law, falls in rank, and keeps where a test that agrees ends

at_round_lawful : (c : List ℕ) (n tests : ℕ) → Fits c n → IsLawful (at_round c n tests)
at_round_lawful c n tests fits = at (leb (length c) 1) refl
  where
    at : (b : Bool) → leb (length c) 1 ≡ b → IsLawful (elim b [ true ↦ End (kept_after c tests) | false ↦ Round c n tests ])
    at true is = tt
    at false is = (fits, grind (arith, nat_tests))

at_round_rank : (c : List ℕ) (n tests : ℕ) → position_rank (at_round c n tests) ≤ suc (rank c n)
at_round_rank c n tests = at (leb (length c) 1)
  where
    at : (b : Bool) → position_rank (elim b [ true ↦ End (kept_after c tests) | false ↦ Round c n tests ]) ≤ suc (rank c n)
    at true = omega arith
    at false = omega arith

at_round_finish : (test : List ℕ → Bool) (c : List ℕ) (n tests : ℕ) → Fits c n → finish test (at_round c n tests) ≡ ddmin2 test c n tests
at_round_finish test c n tests fits = at (leb (length c) 1) refl
  where
    at : (b : Bool) → leb (length c) 1 ≡ b → finish test (elim b [ true ↦ End (kept_after c tests) | false ↦ Round c n tests ]) ≡ ddmin2 test c n tests
    at true is = sym (one_left test c n tests fits (leb-true (length c) 1 is))
    at false is = refl

at_round_small : (c : List ℕ) (n tests : ℕ) → length c ≤ 4096 → IsSmall (at_round c n tests)
at_round_small c n tests le = at (leb (length c) 1)
  where
    at : (b : Bool) → IsSmall (elim b [ true ↦ End (kept_after c tests) | false ↦ Round c n tests ])
    at true = tt
    at false = le

-- what holds of a position that is gone on to
pub record Goes (test : List ℕ → Bool) (p q : Position) : Type 0 where
  pub lawful : IsLawful q
  pub nearer : position_rank q < position_rank p
  pub same : finish test p ≡ finish test q
  pub small : IsSmall p → IsSmall q

after_goes : (test : List ℕ → Bool) (c : List ℕ) (n tests : ℕ) → Fits c n → 2 ≤ length c → (d : Decision) → IfFails d (λ s _. IsNext c s)
    → decide test (round c n) tests ≡ d → Goes test (Round c n tests) (after_decision c n d)
after_goes test c n tests fits long (Fails s looked) next is =
    let falls = rank_next c s.set n s.parts next.shorter in
    let bound = at_round_rank s.set s.parts looked in
    record {
      lawful = at_round_lawful s.set s.parts looked next.fits;
      nearer = omega arith;
      same = on_failing test c n tests s looked fits long is ∙ sym (at_round_finish test s.set s.parts looked next.fits);
      small = λ le. at_round_small s.set s.parts looked (let short = next.shorter in omega arith);
    }
after_goes test c n tests fits long (NoneFails looked) next is = at (ltb n (length c)) refl
  where
    at : (b : Bool) → ltb n (length c) ≡ b
        → Goes test (Round c n tests) (elim b [ true ↦ Round c (min (length c) (2 * n)) looked | false ↦ End (kept_after c looked) ])
    at true less =
        let lt = ltb-true n (length c) less in
        let two = fits.two in
        record { lawful = (finer_fits c n fits lt, long); nearer = omega arith; same = on_finer test c n tests looked fits long lt is; small = λ le. le }
    at false less =
        let ge : length c ≤ n = grind (arith, nat_tests) in
        record { lawful = tt; nearer = omega arith; same = on_end test c n tests looked fits long ge is; small = λ _. tt }

pub step_goes : (known : Answers) (test : List ℕ → Bool) → Agrees known test → (p : Position) → IsLawful p → IfSome (step known p) (λ q. Goes test p q)
step_goes known test agrees (Empty faults) pos = at (known []) refl
  where
    at : (k : Option Bool) → known [] ≡ k → IfSome (option_then (after_empty faults) k) (λ q. Goes test (Empty faults) q)
    at None is = tt
    at (Some true) is = record { lawful = tt; nearer = omega arith; same = ddmin_empty test faults pos (agrees [] true is); small = λ _. tt }
    at (Some false) is =
        let fits = begins_fits faults pos in
        let bound = at_round_rank (range_with_len 0 faults) 2 1 in
        record {
          lawful = at_round_lawful (range_with_len 0 faults) 2 1 fits;
          nearer = omega arith;
          same = ddmin_begins test faults pos (agrees [] false is) ∙ sym (at_round_finish test (range_with_len 0 faults) 2 1 fits);
          small = λ le. at_round_small (range_with_len 0 faults) 2 1 (let len = length-range_with_len 0 faults in omega arith);
        }
step_goes known test agrees (Round c n tests) lawful =
    at (decided known (round c n) tests)
    (decided_agrees known test agrees (round c n) tests)
    (decided_all known (IsNext c) (round c n) tests (round_next c n lawful.0.two (lawful.0.few lawful.1)))
  where
    at : (o : Option Decision) → IfSome o (λ d. decide test (round c n) tests ≡ d) → IfSome o (λ d. IfFails d (λ s _. IsNext c s))
        → IfSome (option_then (after_decision c n) o) (λ q. Goes test (Round c n tests) q)
    at None is next = tt
    at (Some d) is next = after_goes test c n tests lawful.0 lawful.1 d next is
step_goes known test agrees (End r) lawful = tt

-- ---- walks

-- a test that agrees with what is known
guess : Answers → List ℕ → Bool
guess known s = unwrap_or (known s) false

guess_agrees : (known : Answers) → Agrees known (guess known)
unfolding guess
guess_agrees known s fails is = rw is refl

goes : (known : Answers) (p : Position) → IsLawful p → IfSome (step known p) (λ q. Goes (guess known) p q)
goes known p lawful = step_goes known (guess known) (guess_agrees known) p lawful

-- a walk that is long enough stands still at its end
walk_stuck : (known : Answers) (r : ℕ) (p : Position) → IsLawful p → position_rank p ≤ r → step known (walk r known p) ≡ None
unfolding walk
walk_stuck known zero (Empty faults) lawful le = absurd (omega arith)
walk_stuck known zero (Round c n tests) lawful le = absurd (omega arith)
walk_stuck known zero (End x) lawful le = refl
walk_stuck known (suc r) p lawful le = at (λ q l e. walk_stuck known r q l e) (step known p) refl (goes known p lawful)
  where
    at : ((q : Position) → IsLawful q → position_rank q ≤ r → step known (walk r known q) ≡ None)
        → (o : Option Position) → step known p ≡ o → IfSome o (λ q. Goes (guess known) p q)
        → step known (elim o [ None ↦ p | Some q ↦ walk r known q ]) ≡ None
    at more None is g = is
    at more (Some q) is g = let near = g.nearer in more q g.lawful (omega arith)

walk_lawful : (known : Answers) (r : ℕ) (p : Position) → IsLawful p → IsLawful (walk r known p)
unfolding walk
walk_lawful known zero p lawful = lawful
walk_lawful known (suc r) p lawful = at (λ q l. walk_lawful known r q l) (step known p) (goes known p lawful)
  where
    at : ((q : Position) → IsLawful q → IsLawful (walk r known q)) → (o : Option Position) → IfSome o (λ q. Goes (guess known) p q)
        → IsLawful (elim o [ None ↦ p | Some q ↦ walk r known q ])
    at more None g = lawful
    at more (Some q) g = more q g.lawful

walk_finish : (known : Answers) (test : List ℕ → Bool) → Agrees known test → (r : ℕ) (p : Position) → IsLawful p → finish test (walk r known p) ≡ finish test p
unfolding walk
walk_finish known test agrees zero p lawful = refl
walk_finish known test agrees (suc r) p lawful = at (λ q l. walk_finish known test agrees r q l) (step known p) (step_goes known test agrees p lawful)
  where
    at : ((q : Position) → IsLawful q → finish test (walk r known q) ≡ finish test q) → (o : Option Position) → IfSome o (λ q. Goes test p q)
        → finish test (elim o [ None ↦ p | Some q ↦ walk r known q ]) ≡ finish test p
    at more None g = refl
    at more (Some q) g = more q g.lawful ∙ sym g.same

-- longer walks end at the same place
walk_same : (known : Answers) (r r' : ℕ) (p : Position) → IsLawful p → position_rank p ≤ r → position_rank p ≤ r' → walk r known p ≡ walk r' known p
unfolding walk
walk_same known zero zero p lawful le le' = refl
walk_same known zero (suc r') (Empty faults) lawful le le' = absurd (omega arith)
walk_same known zero (suc r') (Round c n tests) lawful le le' = absurd (omega arith)
walk_same known zero (suc r') (End x) lawful le le' = refl
walk_same known (suc r) zero (Empty faults) lawful le le' = absurd (omega arith)
walk_same known (suc r) zero (Round c n tests) lawful le le' = absurd (omega arith)
walk_same known (suc r) zero (End x) lawful le le' = refl
walk_same known (suc r) (suc r') p lawful le le' = at (λ q l e e'. walk_same known r r' q l e e') (step known p) (goes known p lawful)
  where
    at : ((q : Position) → IsLawful q → position_rank q ≤ r → position_rank q ≤ r' → walk r known q ≡ walk r' known q)
        → (o : Option Position) → IfSome o (λ q. Goes (guess known) p q)
        → ◌≡◌ {A = Position} (elim o [ None ↦ p | Some q ↦ walk r known q ]) (elim o [ None ↦ p | Some q ↦ walk r' known q ])
    at more None g = refl
    at more (Some q) g = let near = g.nearer in more q g.lawful (omega arith) (omega arith)

abbrev Grows : Answers → Answers → Type 0
Grows known more = (s : List ℕ) (b : Bool) → known s ≡ Some b → more s ≡ Some b

step_more : (known more : Answers) → Grows known more → (p q : Position) → step known p ≡ Some q → step more p ≡ Some q
step_more known more grows (Empty faults) q is = at (known []) refl is
  where
    at : (k : Option Bool) → known [] ≡ k → option_then (after_empty faults) k ≡ Some q → step more (Empty faults) ≡ Some q
    at None e is = cc
    at (Some b) e is = rw (grows [] b e, step) is
step_more known more grows (Round c n tests) q is = at (decided known (round c n) tests) (decided_more known more grows (round c n) tests) is
  where
    at : (o : Option Decision) → IfSome o (λ d. decided more (round c n) tests ≡ Some d) → option_then (after_decision c n) o ≡ Some q
        → step more (Round c n tests) ≡ Some q
    at None e is = cc
    at (Some d) e is = ap (option_then (after_decision c n)) e ∙ is
step_more known more grows (End x) q is = cc

-- ---- the furthest position

pub furthest_lawful : (known : Answers) (p : Position) → IsLawful p → IsLawful (furthest known p)
unfolding furthest
furthest_lawful known p lawful = walk_lawful known (position_rank p) p lawful

pub furthest_stuck : (known : Answers) (p : Position) → IsLawful p → step known (furthest known p) ≡ None
unfolding furthest
furthest_stuck known p lawful = walk_stuck known (position_rank p) p lawful ≤_refl'
  where
    ≤_refl' : position_rank p ≤ position_rank p
    ≤_refl' = omega arith

pub furthest_finish : (known : Answers) (test : List ℕ → Bool) → Agrees known test → (p : Position) → IsLawful p
    → finish test (furthest known p) ≡ finish test p
unfolding furthest
furthest_finish known test agrees p lawful = walk_finish known test agrees (position_rank p) p lawful

pub furthest_stop : (known : Answers) (p : Position) → step known p ≡ None → furthest known p ≡ p
unfolding furthest walk
furthest_stop known p is = at (position_rank p)
  where
    at : (r : ℕ) → walk r known p ≡ p
    at zero = refl
    at (suc r) = rw (is, walk) refl

pub furthest_step : (known : Answers) (p q : Position) → IsLawful p → step known p ≡ Some q → furthest known p ≡ furthest known q
unfolding furthest walk
furthest_step known p q lawful is =
    let g : Goes (guess known) p q = subst (λ o. IfSome o (λ q. Goes (guess known) p q)) is (goes known p lawful) in
    let near = g.nearer in
    let longer : walk (position_rank p) known p ≡ walk (suc (position_rank p)) known p =
    walk_same known (position_rank p) (suc (position_rank p)) p lawful (omega arith) (omega arith) in
    let one : walk (suc (position_rank p)) known p ≡ walk (position_rank p) known q = one_step (position_rank p) in
    longer ∙ one ∙ walk_same known (position_rank p) (position_rank q) q g.lawful (omega arith) (omega arith)
  where
    one_step : (r : ℕ) → walk (suc r) known p ≡ walk r known q
    one_step r = rw (is, walk) refl

walk_more : (known more : Answers) → Grows known more → (r : ℕ) (p : Position) → IsLawful p → furthest more (walk r known p) ≡ furthest more p
unfolding walk
walk_more known more grows zero p lawful = refl
walk_more known more grows (suc r) p lawful = at (λ q l. walk_more known more grows r q l) (step known p) refl (goes known p lawful)
  where
    at : ((q : Position) → IsLawful q → furthest more (walk r known q) ≡ furthest more q)
        → (o : Option Position) → step known p ≡ o → IfSome o (λ q. Goes (guess known) p q)
        → furthest more (elim o [ None ↦ p | Some q ↦ walk r known q ]) ≡ furthest more p
    at deeper None is g = refl
    at deeper (Some q) is g = deeper q g.lawful ∙ sym (furthest_step more p q lawful (step_more known more grows p q is))

-- what is known later leads on from where what is known now leads
pub furthest_more : (known more : Answers) → Grows known more → (p : Position) → IsLawful p → furthest more (furthest known p) ≡ furthest more p
unfolding furthest
furthest_more known more grows p lawful = walk_more known more grows (position_rank p) p lawful

-- ---- from the start

pub start_lawful : (faults : ℕ) → IsLawful (start faults)
start_lawful zero = tt
start_lawful (suc more) = omega arith

pub start_finish : (test : List ℕ → Bool) (faults : ℕ) → finish test (start faults) ≡ ddmin test faults
start_finish test zero = sym (ddmin_none test)
start_finish test (suc more) = refl

pub passes : (known : Answers) (test : List ℕ → Bool) (faults : ℕ) → Agrees known test → finish test (furthest known (start faults)) ≡ ddmin test faults
passes known test faults agrees = furthest_finish known test agrees (start faults) (start_lawful faults) ∙ start_finish test faults

pub ends : (known : Answers) (test : List ℕ → Bool) (faults : ℕ) (r : Reduced) → Agrees known test → furthest known (start faults) ≡ End r
    → r ≡ ddmin test faults
ends known test faults r agrees is = sym (ap (finish test) is) ∙ passes known test faults agrees

-- what holds after a step, whatever test there is
pub record IsOn (known : Answers) (p q : Position) : Type 0 where
  pub lawful : IsLawful q
  pub small : IsSmall q
  pub nearer : position_rank q < position_rank p
  pub same : furthest known q ≡ furthest known p

pub step_on : (known : Answers) (p q : Position) → IsLawful p → IsSmall p → step known p ≡ Some q → IsOn known p q
step_on known p q lawful small is =
    let g : Goes (guess known) p q = subst (λ o. IfSome o (λ q. Goes (guess known) p q)) is (goes known p lawful) in
    record { lawful = g.lawful; small = g.small small; nearer = g.nearer; same = sym (furthest_step known p q lawful is) }

walk_small : (known : Answers) (r : ℕ) (p : Position) → IsLawful p → IsSmall p → IsSmall (walk r known p)
unfolding walk
walk_small known zero p lawful small = small
walk_small known (suc r) p lawful small = at (λ q l s. walk_small known r q l s) (step known p) (goes known p lawful)
  where
    at : ((q : Position) → IsLawful q → IsSmall q → IsSmall (walk r known q)) → (o : Option Position) → IfSome o (λ q. Goes (guess known) p q)
        → IsSmall (elim o [ None ↦ p | Some q ↦ walk r known q ])
    at more None g = small
    at more (Some q) g = more q g.lawful (g.small small)

pub furthest_small : (known : Answers) (p : Position) → IsLawful p → IsSmall p → IsSmall (furthest known p)
unfolding furthest
furthest_small known p lawful small = walk_small known (position_rank p) p lawful small

pub start_small : (faults : ℕ) → faults ≤ 4096 → IsSmall (start faults)
start_small zero le = tt
start_small (suc more) le = le

-- ---- the walk by a test's own answers

agreed : (known : Answers) (test : List ℕ → Bool) → Agrees known test → Grows known (λ s. Some (test s))
agreed known test agrees s b is = ap (λ x. Some x) (agrees s b is)

walk_through : (known : Answers) (test : List ℕ → Bool) → Agrees known test → (r : ℕ) (p : Position)
    → (steps : ℕ) × (walk steps (λ s. Some (test s)) p ≡ walk r known p)
unfolding walk
walk_through known test agrees zero p = (0, refl)
walk_through known test agrees (suc r) p = at (λ q. walk_through known test agrees r q) (step known p) refl
  where
    at : ((q : Position) → (steps : ℕ) × (walk steps (λ s. Some (test s)) q ≡ walk r known q)) → (o : Option Position) → step known p ≡ o
        → (steps : ℕ) × (walk steps (λ s. Some (test s)) p ≡ elim o [ None ↦ p | Some q ↦ walk r known q ])
    at more None is = (0, refl)
    at more (Some q) is =
        let rest = more q in
        let same : step (λ s. Some (test s)) p ≡ Some q = step_more known (λ s. Some (test s)) (agreed known test agrees) p q is in
        (suc rest.0, rw (same, walk) rest.1)

pub passes_through : (known : Answers) (test : List ℕ → Bool) (faults : ℕ) → Agrees known test
    → (steps : ℕ) × (walk steps (λ s. Some (test s)) (start faults) ≡ furthest known (start faults))
unfolding furthest
passes_through known test faults agrees = walk_through known test agrees (position_rank (start faults)) (start faults)

decided_whole : (test : List ℕ → Bool) (ss : List Candidate) (tests : ℕ) → decided (λ s. Some (test s)) ss tests ≡ None → ⊥
decided_whole test [] tests is = let never : ◌≡◌ {A = Option Decision} (Some (NoneFails tests)) None = is in cc
decided_whole test (s ∷ ss) tests is = at (decided_whole test ss (counted tests)) (test s.set) is
  where
    at : (decided (λ s. Some (test s)) ss (counted tests) ≡ None → ⊥) → (b : Bool)
        → ◌≡◌ {A = Option Decision} (elim b [ true ↦ Some (Fails s (counted tests)) | false ↦ decided (λ s. Some (test s)) ss (counted tests) ]) None → ⊥
    at rest true h = let never : ◌≡◌ {A = Option Decision} (Some (Fails s (counted tests))) None = h in cc
    at rest false h = rest h

pub whole : (test : List ℕ → Bool) (faults : ℕ) → furthest (λ s. Some (test s)) (start faults) ≡ End (ddmin test faults)
whole test faults = at (furthest (λ s. Some (test s)) (start faults)) refl (furthest_stuck (λ s. Some (test s)) (start faults) (start_lawful faults))
  where
    own : Agrees (λ s. Some (test s)) test
    own s b is = cc

    round_case : (c : List ℕ) (n tests : ℕ) (o : Option Decision) → decided (λ s. Some (test s)) (round c n) tests ≡ o
        → option_then (after_decision c n) o ≡ None → ⊥
    round_case c n tests None e is = decided_whole test (round c n) tests e
    round_case c n tests (Some d) e is = let never : ◌≡◌ {A = Option Position} (Some (after_decision c n d)) None = is in cc

    at : (p : Position) → furthest (λ s. Some (test s)) (start faults) ≡ p → step (λ s. Some (test s)) p ≡ None → p ≡ End (ddmin test faults)
    at (Empty n) is stuck = absurd (let never : ◌≡◌ {A = Option Position} (Some (after_empty n (test []))) None = stuck in cc)
    at (Round c n tests) is stuck = absurd (round_case c n tests (decided (λ s. Some (test s)) (round c n) tests) refl stuck)
    at (End r) is stuck = ap (λ x. End x) (ends (λ s. Some (test s)) test faults r own is)
