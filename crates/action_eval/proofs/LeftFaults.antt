-- Tidying leaves those faults of a scenario whose terms it leaves, and the others never act.
use Rattle.std.proofs.Common.{◌≡◌, ℕ, zero, suc, ◌+◌, ◌-◌, ◌<◌, ◌≤◌, List, [], ◌∷◌, ◌++◌, Bool, true, false, cond, not, eqb, ◌&&◌, ◌||◌, length, Option, Some, None, refl, ap, sym, ◌∙◌, arith, ◌⊎◌, inl, inr}
use Rattle.std.specs.Prelude.{slice_get}
use Rattle.std.specs.List.{AllByRecursion}
use Rattle.std.specs.Option.{option_map_or}
use Rattle.std.specs.Str.{bytes_eq}
use Rattle.std.proofs.lemmas.Bool.Decides.{nat_tests}
use Rattle.scenario_values.specs.declared.term.Term.{Term}
use Rattle.scenario_values.specs.declared.place.Place.{Place}
use Rattle.scenario_values.specs.Scenario.{Entries, New, DistinctNames, chain_of, chain_at, is_off, faults_in}
use Rattle.scenario_values.specs.Faults.{chain_faults, faults_from, faults}
use Rattle.scenario_values.specs.Keep.{holds, after_chain}
use Rattle.scenario_values.specs.Tidied.{is_used, is_endless, is_uncounted}
use Rattle.scenario_values.specs.Origins.{left_numbers, all_left_numbers, origins}
use Rattle.scenario_values.proofs.KeptAgain.{after_is}
use Rattle.action_eval.specs.Answers.{Hit}
use Rattle.action_eval.specs.LeftTerms.{is_left, ActsLeft, OnlyLeftActed}
use Rattle.action_eval.proofs.Alike.{bytes_self}

-- ---- which numbers a list holds

apart : (n k : ℕ) → (n ≡ k → ⊥) → eqb n k ≡ false
apart n k h = grind (arith, nat_tests)

same : (n k : ℕ) → n ≡ k → eqb n k ≡ true
same n k h = grind (arith, nat_tests)

or_assoc : (a b c : Bool) → ((a || b) || c) ≡ (a || (b || c))
or_assoc true b c = refl
or_assoc false b c = refl

or_false : (a : Bool) → (a || false) ≡ a
or_false true = refl
or_false false = refl

holds_append : (xs ys : List ℕ) (k : ℕ) → holds (xs ++ ys) k ≡ (holds xs k || holds ys k)
holds_append [] ys k = refl
holds_append (x ∷ xs) ys k = ap (λ b. eqb x k || b) (holds_append xs ys k) ∙ sym (or_assoc (eqb x k) (holds xs k) (holds ys k))

-- The numbers of a chain whose first term has count 0, acts at each hit, or is off.
abbrev led : Bool → Bool → Bool → ℕ → (ℕ → List ℕ) → List ℕ
led used endless off n more = cond used (more (cond off n (n + 1))) (cond off [] (n ∷ []) ++ cond endless [] (more (cond off n (n + 1))))

low_case : (k n : ℕ) (u v f : Bool) (more : ℕ → List ℕ) → k < n → ((m : ℕ) → k < m → holds (more m) k ≡ false) → holds (led u v f n more) k ≡ false
low_case k n true v true more l h = h n l
low_case k n true v false more l h = h (n + 1) (omega arith)
low_case k n false true true more l h = refl
low_case k n false true false more l h = ap (λ b. b || false) (apart n k (λ e. omega arith))
low_case k n false false true more l h = h n l
low_case k n false false false more l h = ap (λ b. b || holds (more (n + 1)) k) (apart n k (λ e. omega arith)) ∙ h (n + 1) (omega arith)

-- no number is below the first
low : (k n : ℕ) (ts : List Term) → k < n → holds (left_numbers n ts) k ≡ false
low k n [] l = refl
low k n (t ∷ ts) l = low_case k n (is_used t.count) (is_endless t) (is_off t.task) (λ m. left_numbers m ts) l (λ m h. low k m ts h)

high_case : (k n r : ℕ) (u v f : Bool) (more : ℕ → List ℕ) → n + (cond f 0 1 + r) ≤ k → ((m : ℕ) → m + r ≤ k → holds (more m) k ≡ false) → holds (led u v f n more) k ≡ false
high_case k n r true v true more l h = h n (omega arith)
high_case k n r true v false more l h = h (n + 1) (omega arith)
high_case k n r false true true more l h = refl
high_case k n r false true false more l h = ap (λ b. b || false) (apart n k (λ e. omega arith))
high_case k n r false false true more l h = h n (omega arith)
high_case k n r false false false more l h = ap (λ b. b || holds (more (n + 1)) k) (apart n k (λ e. omega arith)) ∙ h (n + 1) (omega arith)

-- and none is past the last fault
high : (k n : ℕ) (ts : List Term) → n + faults_in ts ≤ k → holds (left_numbers n ts) k ≡ false
high k n [] l = refl
high k n (t ∷ ts) l = high_case k n (faults_in ts) (is_used t.count) (is_endless t) (is_off t.task) (λ m. left_numbers m ts) l (λ m h. high k m ts h)

all_low : (k n : ℕ) (es : Entries) → k < n → holds (all_left_numbers n es) k ≡ false
all_low k n [] l = refl
all_low k n (e ∷ es) l =
    holds_append (left_numbers n e.1) (all_left_numbers (after_chain n e.1) es) k ∙ ap (λ b. b || holds (all_left_numbers (after_chain n e.1) es) k) (low k n e.1 l)
    ∙ all_low k (after_chain n e.1) es (omega (arith, after_is n e.1))

-- ---- a chain

-- A fault of a chain, from term j on: its number is among these exactly if its term is left.
record Told (e j : ℕ) (ts : List Term) (numbers : List ℕ) (k : ℕ) (p : Place) : Type 0 where
  pub entry : p.entry ≡ e
  pub term : j ≤ p.term
  pub left : holds numbers k ≡ is_left ts (p.term - j)

-- a term of count 0 has a count
used_counted : (t : Term) (v : Bool) → is_used t.count ≡ true → is_endless t ≡ v → v ≡ false
used_counted t v e f = sym f ∙ by_count t.count e
  where
    by_count : (o : Option ℕ) → is_used o ≡ true → (is_uncounted o && eqb t.share 1000000) ≡ false
    by_count None h = absurd cc
    by_count (Some n) h = refl

later : (j x : ℕ) (t : Term) (ts : List Term) (v : Bool) → is_endless t ≡ v → j + 1 ≤ x → is_left (t ∷ ts) (x - j) ≡ cond v false (is_left ts (x - (j + 1)))
later j x t ts v e l =
    let more : x - j ≡ suc (x - (j + 1)) = omega arith in
    ap (is_left (t ∷ ts)) more ∙ ap (λ b. cond b false (is_left ts (x - (j + 1)))) e

told_case : (e j n i : ℕ) (p : Place) (t : Term) (ts : List Term) (u v f : Bool) → is_used t.count ≡ u → is_endless t ≡ v → (u ≡ true → v ≡ false)
    → ((m l : ℕ) → slice_get (chain_faults e (j + 1) ts) l ≡ Some p → Told e (j + 1) ts (left_numbers m ts) (m + l) p)
    → slice_get (cond f [] (record { entry = e; term = j } ∷ []) ++ chain_faults e (j + 1) ts) i ≡ Some p
    → Told e j (t ∷ ts) (led u v f n (λ m. left_numbers m ts)) (n + i) p
told_case e j n i p t ts true true f eu ev c rest g = let bad = c refl in absurd cc
told_case e j n i p t ts true false true eu ev c rest g =
    let r = rest n i g in
    let l = r.term in
    record { entry = r.entry; term = omega arith; left = r.left ∙ sym (later j p.term t ts false ev l) }
told_case e j n i p t ts false true true eu ev c rest g =
    let r = rest n i g in
    let l = r.term in
    record { entry = r.entry; term = omega arith; left = sym (later j p.term t ts true ev l) }
told_case e j n i p t ts false false true eu ev c rest g =
    let r = rest n i g in
    let l = r.term in
    record { entry = r.entry; term = omega arith; left = r.left ∙ sym (later j p.term t ts false ev l) }
told_case e j n zero p t ts true false false eu ev c rest g =
    let here : j ≡ p.term = cc in
    let first : p.term - j ≡ 0 = omega arith in
    record { entry = cc; term = omega arith; left = low (n + 0) (n + 1) ts (omega arith) ∙ sym (ap (is_left (t ∷ ts)) first ∙ ap not eu) }
told_case e j n zero p t ts false v false eu ev c rest g =
    let here : j ≡ p.term = cc in
    let first : p.term - j ≡ 0 = omega arith in
    let mine : eqb n (n + 0) ≡ true = same n (n + 0) (omega arith) in
    record { entry = cc; term = omega arith; left = ap (λ b. b || holds (cond v [] (left_numbers (n + 1) ts)) (n + 0)) mine ∙ sym (ap (is_left (t ∷ ts)) first ∙ ap not eu) }
told_case e j n (suc i) p t ts true false false eu ev c rest g =
    let r = rest (n + 1) i g in
    let l = r.term in
    let next : n + suc i ≡ (n + 1) + i = omega arith in
    record { entry = r.entry; term = omega arith; left = ap (holds (left_numbers (n + 1) ts)) next ∙ r.left ∙ sym (later j p.term t ts false ev l) }
told_case e j n (suc i) p t ts false true false eu ev c rest g =
    let r = rest (n + 1) i g in
    let l = r.term in
    record { entry = r.entry; term = omega arith; left = ap (λ b. b || false) (apart n (n + suc i) (λ e. omega arith)) ∙ sym (later j p.term t ts true ev l) }
told_case e j n (suc i) p t ts false false false eu ev c rest g =
    let r = rest (n + 1) i g in
    let l = r.term in
    let next : n + suc i ≡ (n + 1) + i = omega arith in
    record {
      entry = r.entry;
      term = omega arith;
      left = ap (λ b. b || holds (left_numbers (n + 1) ts) (n + suc i)) (apart n (n + suc i) (λ e. omega arith)) ∙ ap (holds (left_numbers (n + 1) ts)) next ∙ r.left ∙ sym (later j p.term t ts false ev l);
    }

chain_told : (e j n : ℕ) (ts : List Term) (i : ℕ) (p : Place) → slice_get (chain_faults e j ts) i ≡ Some p → Told e j ts (left_numbers n ts) (n + i) p
unfolding chain_faults
chain_told e j n [] i p g = absurd cc
chain_told e j n (t ∷ ts) i p g =
    told_case e j n i p t ts (is_used t.count) (is_endless t) (is_off t.task) refl refl (λ h. used_counted t (is_endless t) h refl) (λ m l h. chain_told e (j + 1) m ts l p h) g

-- ---- a scenario

places_case : (e j : ℕ) (l : List Place) (n : ℕ) (f : Bool) → length l ≡ n → length (cond f [] (record { entry = e; term = j } ∷ []) ++ l) ≡ cond f 0 1 + n
places_case e j l n true h = omega arith
places_case e j l n false h = omega arith

chain_places : (e j : ℕ) (ts : List Term) → length (chain_faults e j ts) ≡ faults_in ts
unfolding chain_faults
chain_places e j [] = refl
chain_places e j (t ∷ ts) = places_case e j (chain_faults e (j + 1) ts) (faults_in ts) (is_off t.task) (chain_places e (j + 1) ts)

-- what stands at a place of two lists stands in one of them
abbrev InOne : List Place → List Place → ℕ → Place → Type 0
InOne xs ys i p = ((i < length xs) × (slice_get xs i ≡ Some p)) ⊎ ((length xs ≤ i) × (slice_get ys (i - length xs) ≡ Some p))

one_later : (x : Place) (xs ys : List Place) (i : ℕ) (p : Place) → InOne xs ys i p → InOne (x ∷ xs) ys (suc i) p
one_later x xs ys i p (inl h) = let l = h.0 in inl (omega arith, h.1)
one_later x xs ys i p (inr h) = let l = h.0 in let less : suc i - length (x ∷ xs) ≡ i - length xs = omega arith in inr (omega arith, ap (slice_get ys) less ∙ h.1)

in_one : (xs ys : List Place) (i : ℕ) (p : Place) → slice_get (xs ++ ys) i ≡ Some p → InOne xs ys i p
in_one [] ys i p g = let whole : i - 0 ≡ i = omega arith in inr (omega arith, ap (slice_get ys) whole ∙ g)
in_one (x ∷ xs) ys zero p g = inl (omega arith, g)
in_one (x ∷ xs) ys (suc i) p g = one_later x xs ys i p (in_one xs ys i p g)

-- the same of a fault of entries, from entry e on
record ToldAll (e : ℕ) (es : Entries) (numbers : List ℕ) (k : ℕ) (p : Place) : Type 0 where
  pub entry : e ≤ p.entry
  pub left : holds numbers k ≡ is_left (chain_at es (p.entry - e)) p.term

told_first : (e n : ℕ) (c : List ℕ × List Term) (es : Entries) (i : ℕ) (p : Place) → i < faults_in c.1 → Told e 0 c.1 (left_numbers n c.1) (n + i) p → ToldAll e (c ∷ es) (all_left_numbers n (c ∷ es)) (n + i) p
told_first e n c es i p l r =
    let after = all_left_numbers (after_chain n c.1) es in
    let here = r.entry in
    let first : p.entry - e ≡ 0 = omega arith in
    let whole : p.term - 0 ≡ p.term = omega arith in
    record {
      entry = omega arith;
      left = holds_append (left_numbers n c.1) after (n + i) ∙ ap (λ b. holds (left_numbers n c.1) (n + i) || b) (all_low (n + i) (after_chain n c.1) es (omega (arith, after_is n c.1)))
          ∙ or_false (holds (left_numbers n c.1) (n + i)) ∙ r.left ∙ ap (is_left c.1) whole ∙ sym (ap (λ x. is_left (chain_at (c ∷ es) x) p.term) first);
    }

told_later : (e n : ℕ) (c : List ℕ × List Term) (es : Entries) (i l : ℕ) (p : Place) → faults_in c.1 + l ≡ i → ToldAll (e + 1) es (all_left_numbers (after_chain n c.1) es) (after_chain n c.1 + l) p
    → ToldAll e (c ∷ es) (all_left_numbers n (c ∷ es)) (n + i) p
told_later e n c es i l p is r =
    let after = all_left_numbers (after_chain n c.1) es in
    let there = r.entry in
    let next : p.entry - e ≡ suc (p.entry - (e + 1)) = omega arith in
    let number : n + i ≡ after_chain n c.1 + l = omega (arith, after_is n c.1) in
    record {
      entry = omega arith;
      left = holds_append (left_numbers n c.1) after (n + i) ∙ ap (λ b. b || holds after (n + i)) (high (n + i) n c.1 (omega arith)) ∙ ap (holds after) number ∙ r.left
          ∙ sym (ap (λ x. is_left (chain_at (c ∷ es) x) p.term) next);
    }

all_told : (e n : ℕ) (es : Entries) (i : ℕ) (p : Place) → slice_get (faults_from e es) i ≡ Some p → ToldAll e es (all_left_numbers n es) (n + i) p
unfolding faults_from
all_told e n [] i p g = absurd cc
all_told e n (c ∷ es) i p g = by_part (λ m l h. all_told (e + 1) m es l p h) (in_one (chain_faults e 0 c.1) (faults_from (e + 1) es) i p g)
  where
    count : length (chain_faults e 0 c.1) ≡ faults_in c.1
    count = chain_places e 0 c.1

    by_part : ((m l : ℕ) → slice_get (faults_from (e + 1) es) l ≡ Some p → ToldAll (e + 1) es (all_left_numbers m es) (m + l) p) → InOne (chain_faults e 0 c.1) (faults_from (e + 1) es) i p → ToldAll e (c ∷ es) (all_left_numbers n (c ∷ es)) (n + i) p
    by_part rest (inl h) = let l = h.0 in told_first e n c es i p (omega (arith, count)) (chain_told e 0 n c.1 i p h.1)
    by_part rest (inr h) =
        let l = h.0 in
        told_later e n c es i (i - length (chain_faults e 0 c.1)) p (omega (arith, count)) (rest (after_chain n c.1) (i - length (chain_faults e 0 c.1)) h.1)

pub left_faults : (s : Entries) (k : ℕ) (p : Place) → slice_get (faults s) k ≡ Some p → holds (origins s) k ≡ is_left (chain_at s p.entry) p.term
left_faults s k p g =
    let r = all_told 0 0 s k p g in
    let number : k ≡ 0 + k = omega arith in
    let whole : p.entry - 0 ≡ p.entry = omega arith in
    ap (holds (origins s)) number ∙ r.left ∙ ap (λ x. is_left (chain_at s x) p.term) whole

-- ---- a fault that is dropped never acts

get_chain : (es : Entries) (f : List ℕ × List Term) (i : ℕ) (e : List ℕ × List Term) → New f.0 es → slice_get es i ≡ Some e → bytes_eq e.0 f.0 ≡ false
get_chain [] f i e new g = absurd cc
get_chain (x ∷ es) f zero e new g =
    let same : x ≡ e = cc in
    ap (λ (y : List ℕ × List Term). bytes_eq y.0 f.0) (sym same) ∙ new.0
get_chain (x ∷ es) f (suc i) e new g = get_chain es f i e new.1 g

chain_by_name : (s : Entries) (i : ℕ) (e : List ℕ × List Term) → DistinctNames s → slice_get s i ≡ Some e → chain_of s e.0 ≡ e.1
chain_by_name [] i e d g = absurd cc
chain_by_name (x ∷ s) zero e d g =
    let same : x ≡ e = cc in
    ap (λ (y : List ℕ × List Term). chain_of (y ∷ s) e.0) same ∙ ap (λ b. cond b e.1 (chain_of s e.0)) (bytes_self e.0)
chain_by_name (x ∷ s) (suc i) e d g = ap (λ b. cond b x.1 (chain_of s e.0)) (get_chain s x i e d.0 g) ∙ chain_by_name s i e d.1 g

never : (s : Entries) (name : List ℕ) (i : ℕ) (o : Option (List ℕ × ℕ)) → is_left (chain_of s name) i ≡ false → ActsLeft s o → o ≡ Some (name, i) → ⊥
never s name i None dropped acts e = cc
never s name i (Some q) dropped acts e =
    let same : q ≡ (name, i) = cc in
    let left : is_left (chain_of s name) i ≡ true = sym (ap (λ (r : List ℕ × ℕ). is_left (chain_of s r.0) r.1) same) ∙ acts in
    cc

all_never : (s : Entries) (name : List ℕ) (i : ℕ) (history : List Hit) → is_left (chain_of s name) i ≡ false → OnlyLeftActed s history → AllByRecursion (λ (h : Hit). h.term ≡ Some (name, i) → ⊥) history
all_never s name i [] dropped acts = tt
all_never s name i (h ∷ history) dropped acts = (never s name i h.term dropped acts.0, all_never s name i history dropped acts.1)

pub dropped_never : (s : Entries) (k : ℕ) (p : Place) (e : List ℕ × List Term) (history : List Hit) → DistinctNames s → slice_get (faults s) k ≡ Some p → slice_get s p.entry ≡ Some e → holds (origins s) k ≡ false
    → OnlyLeftActed s history → AllByRecursion (λ (h : Hit). h.term ≡ Some (e.0, p.term) → ⊥) history
dropped_never s k p e history d g at out acts =
    let chain : chain_at s p.entry ≡ e.1 = ap (λ (o : Option (List ℕ × List Term)). option_map_or (λ (x : List ℕ × List Term). x.1) o []) at in
    let dropped : is_left (chain_of s e.0) p.term ≡ false =
    ap (λ ts. is_left ts p.term) (chain_by_name s p.entry e d at ∙ sym chain) ∙ sym (left_faults s k p g) ∙ out
    in
    all_never s e.0 p.term history dropped acts
