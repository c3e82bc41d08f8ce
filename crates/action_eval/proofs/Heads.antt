-- Hits that come to nothing, by what the next hits of points meet.
use Rattle.std.proofs.Common.{◌≡◌, ℕ, zero, suc, ◌<◌, Bool, true, false, cond, eqb, ◌&&◌, List, [], ◌∷◌, length, map, slice_index, slice_set, get_or, Option, Some, None, is_some, refl, ap, sym, ◌∙◌, arith, add-zero, subst}
use Rattle.std.proofs.lemmas.Bool.Decides.{nat_tests}
use Rattle.std.proofs.lemmas.List.{length-map, map-set}
use Rattle.scenario_values.specs.declared.term.Term.{Term}
use Rattle.scenario_values.specs.declared.term.Task.TheVariants as task
use Rattle.scenario_values.specs.Scenario.{is_off}
use Rattle.action_eval.specs.declared.answer.Stop.{Stop}
use Rattle.action_eval.specs.declared.answer.Note.{Note}
use Rattle.action_eval.specs.declared.found.Head.{Head}
use Rattle.action_eval.specs.declared.found.Head.TheVariants as head
use Rattle.action_eval.specs.Answers.{Run, name_of}
use Rattle.action_eval.specs.inside.Session.{Keeps, found_of, head_of, first_head, with_one_less, IsRest}
use Rattle.action_eval.proofs.Tidied.{off_is}
use Rattle.action_eval.proofs.Steps.{Finds, finds_none, finds_off, found_within, known_found, point_found}

-- ---- the heads of points

-- The heads after the chain of one point is replaced.
pub heads_with : (found : List (Option (List Term × ℕ))) (heads : List Head) (p : ℕ) (f : Option (List Term × ℕ)) → heads ≡ map head_of found → slice_set heads p (head_of f) ≡ map head_of (slice_set found p f)
heads_with found heads p f e = ap (λ (l : List Head). slice_set l p (head_of f)) e ∙ sym (map-set head_of found p f)

head_at : (found : List (Option (List Term × ℕ))) (p : ℕ) (d : Head) → p < length found → get_or (map head_of found) p d ≡ head_of (get_or found p None)
head_at [] p d h = absurd (omega arith)
head_at (f ∷ fs) zero d h = refl
head_at (f ∷ fs) (suc p) d h = head_at fs p d (omega arith)

-- the head that a look-up gave
pub head_is : (found : List (Option (List Term × ℕ))) (heads : List Head) (p : ℕ) (d o : Head) → heads ≡ map head_of found → p < length found → o ≡ get_or heads p d → head_of (get_or found p None) ≡ o
head_is found heads p d o e h at = sym (head_at found p d h) ∙ ap (λ (l : List Head). get_or l p d) (sym e) ∙ sym at

-- each point has a head
pub known_head : (r now : Run) (found : List (Option (List Term × ℕ))) (left : List ℕ) (taken : ℕ) (notes : List Note) (millis : ℕ) (halt : Option Stop) → Keeps r found left taken notes millis halt
    → r ≡ now → (p : ℕ) → p < length now.given.catalogue → (heads : List Head) → heads ≡ map head_of found → p < length heads
known_head r now found left taken notes millis halt k same p h heads e =
    omega (arith, known_found r now found left taken notes millis halt k same p h, length-map found head_of, ap length e)

-- a number that a look-up gave
pub value_at : (xs : List ℕ) (i d : ℕ) → i < length xs → (v : ℕ) → v ≡ get_or xs i d → v ≡ slice_index xs i
value_at [] i d h v e = absurd (omega arith)
value_at (x ∷ xs) zero d h v e = e
value_at (x ∷ xs) (suc i) d h v e = value_at xs i d (omega arith) v e

-- ---- what they say

nothing_first : (b : Bool) (s : ℕ) → cond b (head.Off s) head.Terms ≡ head.Nothing → ⊥
nothing_first true s e = cc
nothing_first false s e = cc

off_first : (b : Bool) (s i : ℕ) → cond b (head.Off s) head.Terms ≡ head.Off i → (b ≡ true) × (s ≡ i)
off_first true s i e = (refl, cc)
off_first false s i e = absurd (cc)

both : (b c : Bool) → (b && c) ≡ true → (b ≡ true) × (c ≡ true)
both true c e = (refl, e)
both false c e = absurd (cc)

unspent : (b : Bool) (n : ℕ) → 0 < n → (b && eqb n 0) ≡ false
unspent true n h = grind (arith, nat_tests)
unspent false n h = refl

when_second : {A : Type 0} (b c : Bool) (x y z : A) → b ≡ false → c ≡ true → cond b x (cond c y z) ≡ y
when_second true c x y z e f = cc
when_second false true x y z e f = refl
when_second false false x y z e f = cc

-- ---- hits that come to nothing

nothing_left : (r : Run) (p : ℕ) (found : List (Option (List Term × ℕ))) (left : List ℕ) (taken : ℕ) (notes : List Note) (millis : ℕ) (halt : Option Stop) → Keeps r found left taken notes millis halt
    → (chain : List Term) (start : ℕ) → IsRest left (found_of r.given.scenario (name_of r.given p)) (Some (chain, start)) → first_head chain start ≡ head.Nothing → Finds r p left task.Off taken
nothing_left r p found left taken notes millis halt k [] start at e = finds_off r p found left taken notes millis halt k left refl [] start at tt None (λ word spent n h. refl) tt refl
nothing_left r p found left taken notes millis halt k (t ∷ ts) start at e = absurd (nothing_first (is_off t.task && eqb t.share 1000000) start e)

-- a hit of a point without a term that is left
finds_no_term : (r : Run) (p : ℕ) (found : List (Option (List Term × ℕ))) (left : List ℕ) (taken : ℕ) (notes : List Note) (millis : ℕ) (halt : Option Stop) → Keeps r found left taken notes millis halt
    → (o : Option (List Term × ℕ)) → IsRest left (found_of r.given.scenario (name_of r.given p)) o → head_of o ≡ head.Nothing → Finds r p left task.Off taken
finds_no_term r p found left taken notes millis halt k None at e = finds_none r p found left taken notes millis halt k at
finds_no_term r p found left taken notes millis halt k (Some f) at e = nothing_left r p found left taken notes millis halt k f.0 f.1 at e

-- an `off` that acts wherever it is reached, and of whose count something is left
pub record Counts (r : Run) (p : ℕ) (left : List ℕ) (taken i : ℕ) : Type 0 where
  pub within : i < length left
  pub finds : 0 < slice_index left i → Finds r p (with_one_less left i) task.Off taken

counts_first : (r : Run) (p : ℕ) (found : List (Option (List Term × ℕ))) (left : List ℕ) (taken : ℕ) (notes : List Note) (millis : ℕ) (halt : Option Stop) → Keeps r found left taken notes millis halt
    → (chain : List Term) (start i : ℕ) → IsRest left (found_of r.given.scenario (name_of r.given p)) (Some (chain, start)) → first_head chain start ≡ head.Off i → Counts r p left taken i
counts_first r p found left taken notes millis halt k [] start i at e = absurd (cc)
counts_first r p found left taken notes millis halt k (t ∷ ts) start i at e =
    let first = off_first (is_off t.task && eqb t.share 1000000) start i e in
    let is = both (is_off t.task) (eqb t.share 1000000) first.0 in
    let f = found_within r found left taken notes millis halt k (name_of r.given p) (t ∷ ts) start at in
    record {
      within = omega (arith, f.0, first.1);
      finds = λ some.
          let here : 0 < slice_index left start = subst (λ (j : ℕ). 0 < slice_index left j) (sym first.1) some in
          subst (λ (j : ℕ). Finds r p (with_one_less left j) task.Off taken) (add-zero start ∙ first.1)
          (finds_off r p found left taken notes millis halt k left refl (t ∷ ts) start at (unspent (is_some t.count) (slice_index left start) here) (Some 0)
          (λ word spent n h. when_second (spent 0 t) (eqb t.share 1000000) _ _ _ h is.1) (omega arith) (off_is t.task is.0));
    }

-- a hit of a point with one
counts_off : (r : Run) (p : ℕ) (found : List (Option (List Term × ℕ))) (left : List ℕ) (taken : ℕ) (notes : List Note) (millis : ℕ) (halt : Option Stop) → Keeps r found left taken notes millis halt
    → (o : Option (List Term × ℕ)) (i : ℕ) → IsRest left (found_of r.given.scenario (name_of r.given p)) o → head_of o ≡ head.Off i → Counts r p left taken i
counts_off r p found left taken notes millis halt k None i at e = absurd (cc)
counts_off r p found left taken notes millis halt k (Some f) i at e = counts_first r p found left taken notes millis halt k f.0 f.1 i at e

-- the same of the head that a look-up gave
pub nothing_by : (r now : Run) (found : List (Option (List Term × ℕ))) (left : List ℕ) (taken : ℕ) (notes : List Note) (millis : ℕ) (halt : Option Stop) → Keeps r found left taken notes millis halt
    → (heads : List Head) → heads ≡ map head_of found → r ≡ now → (p : ℕ) → p < length now.given.catalogue → (d o : Head) → o ≡ get_or heads p d → o ≡ head.Nothing → Finds r p left task.Off taken
nothing_by r now found left taken notes millis halt k heads e same p h d o at is =
    let o' = get_or found p None in
    finds_no_term r p found left taken notes millis halt k o' (point_found r now found left taken notes millis halt k same p h None o' refl)
    (head_is found heads p d o e (known_found r now found left taken notes millis halt k same p h) at ∙ is)

pub off_by : (r now : Run) (found : List (Option (List Term × ℕ))) (left : List ℕ) (taken : ℕ) (notes : List Note) (millis : ℕ) (halt : Option Stop) → Keeps r found left taken notes millis halt
    → (heads : List Head) → heads ≡ map head_of found → r ≡ now → (p : ℕ) → p < length now.given.catalogue → (d o : Head) → o ≡ get_or heads p d → (i : ℕ) → o ≡ head.Off i → Counts r p left taken i
off_by r now found left taken notes millis halt k heads e same p h d o at i is =
    let o' = get_or found p None in
    counts_off r p found left taken notes millis halt k o' i (point_found r now found left taken notes millis halt k same p h None o' refl)
    (head_is found heads p d o e (known_found r now found left taken notes millis halt k same p h) at ∙ is)
