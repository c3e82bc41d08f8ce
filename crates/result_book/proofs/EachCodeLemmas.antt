-- The first failure of each code: a loop that passes over codes that were found finds exactly these.
use Rattle.std.proofs.Common.{◌≡◌, ℕ, zero, suc, ◌+◌, ◌<◌, ◌≤◌, Bool, true, false, not, ◌&&◌, ◌||◌, cond, eqb, ltb, List, [], ◌∷◌, ◌++◌, map, length, get_or, Option, Some, None, refl, arith, ap, sym, ◌∙◌, subst, append_assoc, drop, inl, inr}
use Rattle.std.specs.List.{All, Any, AllPairs, AllByRecursion, filter, filter_map, list_any, enumerate_from, slice_get}
use Rattle.std.proofs.lemmas.Bool.{false≢true, lt-ltb, le-ltb, eq-eqb, eqb-true, not-true, and_from, cond_both, or_cases, or_left, or_right, both_ways}
use Rattle.std.proofs.lemmas.List.{append-nil, drop_all}
use Rattle.std.proofs.lemmas.List.Folds.{list_any-append, Any-from_list_any}
use Rattle.target_trait.specs.declared.judgement.Verdict.{Verdict}
use Rattle.target_trait.specs.declared.judgement.Verdict.TheVariants as verdict
use Rattle.result_book.specs.FirstFailure.{first_from, FailsAt, IsFirstFailure}
use Rattle.result_book.specs.FirstFailures.{failures, is_earlier, first_failures, AreFirstFailures}
use Rattle.result_book.specs.Slots.{first_in, with_number, in_book, FailsIn}
use Rattle.result_book.specs.Verdicts.{numbered}
use Rattle.result_book.proofs.SlotLemmas.{first_full}
use Rattle.result_book.proofs.FailureLemmas.{least_slot}

abbrev pub has_code : ℕ → List (ℕ × ℕ) → Bool
has_code code fs = list_any (λ f. eqb f.1 code) fs

-- the failures that a loop finds which passes over the codes that were found
abbrev pub collected : List (ℕ × ℕ) → List (ℕ × ℕ) → List (ℕ × ℕ)
collected found [] = found
collected found (f ∷ fs) = collected (cond (has_code f.1 found) found (found ++ f ∷ [])) fs

-- the failures of places numbered from n on
abbrev pub failures_from : ℕ → List (Option Verdict) → List (ℕ × ℕ)
failures_from n slots = failures (filter_map with_number (enumerate_from n slots))

-- the numbers ascend
abbrev Ascends : List (ℕ × ℕ) → Type 0
Ascends [] = Unit {0}
Ascends (f ∷ fs) = AllByRecursion (λ (g : ℕ × ℕ). f.0 < g.0) fs × Ascends fs

weaker : {X : Type 0} (P Q : X → Type 0) → ((x : X) → P x → Q x) → (xs : List X) → AllByRecursion P xs → AllByRecursion Q xs
weaker P Q to [] all = tt
weaker P Q to (x ∷ xs) all = (to x all.0, weaker P Q to xs all.1)

each_at : {X : Type 0} (P : X → Type 0) (xs : List X) → AllByRecursion P xs → All P xs
each_at P [] all k d lt = absurd (omega arith)
each_at P (x ∷ xs) all zero d lt = all.0
each_at P (x ∷ xs) all (suc k) d lt = each_at P xs all.1 k d (omega arith)

pairs_at : (fs : List (ℕ × ℕ)) → Ascends fs → AllPairs (λ a b. a.0 < b.0) fs
pairs_at [] asc i j d lt in_range = absurd (omega arith)
pairs_at (f ∷ fs) asc zero zero d lt in_range = absurd (omega arith)
pairs_at (f ∷ fs) asc zero (suc j) d lt in_range = each_at (λ (g : ℕ × ℕ). f.0 < g.0) fs asc.0 j d (omega arith)
pairs_at (f ∷ fs) asc (suc i) zero d lt in_range = absurd (omega arith)
pairs_at (f ∷ fs) asc (suc i) (suc j) d lt in_range = pairs_at fs asc.1 i j d (omega arith) (omega arith)

-- what a filter keeps
filter_keeps : {X : Type 0} (P : X → Type 0) (p : X → Bool) (xs : List X) → AllByRecursion P xs → AllByRecursion P (filter p xs)
filter_keeps P p [] all = tt
filter_keeps P p (x ∷ xs) all = cond_both (p x) (x ∷ filter p xs) (filter p xs) (AllByRecursion P) (λ is. (all.0, filter_keeps P p xs all.1)) (λ is. filter_keeps P p xs all.1)

filter_passes : {X : Type 0} (p : X → Bool) (xs : List X) → AllByRecursion (λ x. p x ≡ true) (filter p xs)
filter_passes p [] = tt
filter_passes p (x ∷ xs) = cond_both (p x) (x ∷ filter p xs) (filter p xs) (AllByRecursion (λ y. p y ≡ true)) (λ is. (is, filter_passes p xs)) (λ is. filter_passes p xs)

both_of : {X : Type 0} (P Q : X → Type 0) (xs : List X) → AllByRecursion P xs → AllByRecursion Q xs → AllByRecursion (λ x. P x × Q x) xs
both_of P Q [] p q = tt
both_of P Q (x ∷ xs) p q = ((p.0, q.0), both_of P Q xs p.1 q.1)

filter_ascends : (p : ℕ × ℕ → Bool) (fs : List (ℕ × ℕ)) → Ascends fs → Ascends (filter p fs)
filter_ascends p [] asc = tt
filter_ascends p (f ∷ fs) asc =
    cond_both (p f) (f ∷ filter p fs) (filter p fs) Ascends (λ is. (filter_keeps (λ (g : ℕ × ℕ). f.0 < g.0) p fs asc.0, filter_ascends p fs asc.1)) (λ is. filter_ascends p fs asc.1)

filter_same : {X : Type 0} (p q : X → Bool) (xs : List X) → AllByRecursion (λ x. p x ≡ q x) xs → filter p xs ≡ filter q xs
filter_same p q [] all = refl
filter_same p q (x ∷ xs) all = ap (λ b. cond b (x ∷ filter p xs) (filter p xs)) all.0 ∙ ap (λ ys. cond (q x) (x ∷ ys) ys) (filter_same p q xs all.1)

-- no failure of this code and lower number is among later ones
none_earlier : (f : ℕ × ℕ) (fs : List (ℕ × ℕ)) → AllByRecursion (λ (g : ℕ × ℕ). f.0 < g.0) fs → list_any (is_earlier f) fs ≡ false
none_earlier f [] all = refl
none_earlier f (g ∷ fs) all = ap (λ b. (b && eqb g.1 f.1) || list_any (is_earlier f) fs) (le-ltb g.0 f.0 (let lt = all.0 in omega (arith, lt))) ∙ none_earlier f fs all.1

first_of_later : (f : ℕ × ℕ) (fs : List (ℕ × ℕ)) → AllByRecursion (λ (g : ℕ × ℕ). f.0 < g.0) fs → list_any (is_earlier f) (f ∷ fs) ≡ false
first_of_later f fs all = ap (λ b. (b && eqb f.1 f.1) || list_any (is_earlier f) fs) (le-ltb f.0 f.0 (omega arith)) ∙ none_earlier f fs all

-- which are kept of those that come after what was found
abbrev is_new : List (ℕ × ℕ) → List (ℕ × ℕ) → ℕ × ℕ → Bool
is_new found fs f = not (has_code f.1 found) && not (list_any (is_earlier f) fs)

passed_over : (had same earlier : Bool) → (same ≡ true → had ≡ true) → (not had && not earlier) ≡ (not had && not (same || earlier))
passed_over true same earlier so = refl
passed_over false true earlier so = absurd (false≢true (so refl))
passed_over false false earlier so = refl

added : (had same earlier : Bool) → (not (had || (same || false)) && not earlier) ≡ (not had && not (same || earlier))
added true same earlier = refl
added false true earlier = refl
added false false earlier = refl

earlier_is : (f g : ℕ × ℕ) (fs : List (ℕ × ℕ)) → f.0 < g.0 → list_any (is_earlier g) (f ∷ fs) ≡ (eqb f.1 g.1 || list_any (is_earlier g) fs)
earlier_is f g fs lt = ap (λ b. (b && eqb f.1 g.1) || list_any (is_earlier g) fs) (lt-ltb f.0 g.0 lt)

new_passed : (found : List (ℕ × ℕ)) (f : ℕ × ℕ) (fs : List (ℕ × ℕ)) → has_code f.1 found ≡ true → (g : ℕ × ℕ) → f.0 < g.0 → is_new found fs g ≡ is_new found (f ∷ fs) g
new_passed found f fs had g lt =
    passed_over (has_code g.1 found) (eqb f.1 g.1) (list_any (is_earlier g) fs) (λ same. subst (λ code. has_code code found ≡ true) (eqb-true f.1 g.1 same) had)
    ∙ ap (λ b. not (has_code g.1 found) && not b) (sym (earlier_is f g fs lt))

new_added : (found : List (ℕ × ℕ)) (f : ℕ × ℕ) (fs : List (ℕ × ℕ)) (g : ℕ × ℕ) → f.0 < g.0 → is_new (found ++ f ∷ []) fs g ≡ is_new found (f ∷ fs) g
new_added found f fs g lt =
    ap (λ b. not b && not (list_any (is_earlier g) fs)) (list_any-append (λ (h : ℕ × ℕ). eqb h.1 g.1) found (f ∷ []))
    ∙ added (has_code g.1 found) (eqb f.1 g.1) (list_any (is_earlier g) fs)
    ∙ ap (λ b. not (has_code g.1 found) && not b) (sym (earlier_is f g fs lt))

and_true : (b : Bool) → (b && not false) ≡ b
and_true true = refl
and_true false = refl

new_first : (found : List (ℕ × ℕ)) (f : ℕ × ℕ) (fs : List (ℕ × ℕ)) → AllByRecursion (λ (g : ℕ × ℕ). f.0 < g.0) fs → is_new found (f ∷ fs) f ≡ not (has_code f.1 found)
new_first found f fs all = ap (λ b. not (has_code f.1 found) && not b) (first_of_later f fs all) ∙ and_true (not (has_code f.1 found))

all_passed : (found : List (ℕ × ℕ)) (f : ℕ × ℕ) (fs : List (ℕ × ℕ)) → AllByRecursion (λ (g : ℕ × ℕ). f.0 < g.0) fs → has_code f.1 found ≡ true
    → found ++ filter (is_new found fs) fs ≡ found ++ filter (is_new found (f ∷ fs)) (f ∷ fs)
all_passed found f fs all had =
    ap (λ gs. found ++ gs) (filter_same (is_new found fs) (is_new found (f ∷ fs)) fs (weaker (λ (g : ℕ × ℕ). f.0 < g.0) (λ g. is_new found fs g ≡ is_new found (f ∷ fs) g) (new_passed found f fs had) fs all))
    ∙ ap (λ b. found ++ cond b (f ∷ filter (is_new found (f ∷ fs)) fs) (filter (is_new found (f ∷ fs)) fs)) (sym (new_first found f fs all ∙ ap not had))

all_added : (found : List (ℕ × ℕ)) (f : ℕ × ℕ) (fs : List (ℕ × ℕ)) → AllByRecursion (λ (g : ℕ × ℕ). f.0 < g.0) fs → has_code f.1 found ≡ false
    → (found ++ f ∷ []) ++ filter (is_new (found ++ f ∷ []) fs) fs ≡ found ++ filter (is_new found (f ∷ fs)) (f ∷ fs)
all_added found f fs all had =
    ap (λ gs. (found ++ f ∷ []) ++ gs) (filter_same (is_new (found ++ f ∷ []) fs) (is_new found (f ∷ fs)) fs (weaker (λ (g : ℕ × ℕ). f.0 < g.0) (λ g. is_new (found ++ f ∷ []) fs g ≡ is_new found (f ∷ fs) g) (new_added found f fs) fs all))
    ∙ append_assoc found (f ∷ []) (filter (is_new found (f ∷ fs)) fs)
    ∙ ap (λ b. found ++ cond b (f ∷ filter (is_new found (f ∷ fs)) fs) (filter (is_new found (f ∷ fs)) fs)) (sym (new_first found f fs all ∙ ap not had))

collected_is : (fs found : List (ℕ × ℕ)) → Ascends fs → collected found fs ≡ found ++ filter (is_new found fs) fs
collected_is [] found asc = sym (append-nil found)
collected_is (f ∷ fs) found asc =
    cond_both (has_code f.1 found) found (found ++ f ∷ []) (λ gs. collected gs fs ≡ found ++ filter (is_new found (f ∷ fs)) (f ∷ fs))
    (λ had. collected_is fs found asc.1 ∙ all_passed found f fs asc.0 had)
    (λ had. collected_is fs (found ++ f ∷ []) asc.1 ∙ all_added found f fs asc.0 had)

-- a code that is there is found
still : (fs found : List (ℕ × ℕ)) (code : ℕ) → has_code code found ≡ true → has_code code (collected found fs) ≡ true
still [] found code had = had
still (f ∷ fs) found code had =
    cond_both (has_code f.1 found) found (found ++ f ∷ []) (λ gs. has_code code (collected gs fs) ≡ true)
    (λ is. still fs found code had)
    (λ is. still fs (found ++ f ∷ []) code (list_any-append (λ (g : ℕ × ℕ). eqb g.1 code) found (f ∷ []) ∙ or_left (has_code code found) (has_code code (f ∷ [])) had))

gained : (fs found : List (ℕ × ℕ)) (code : ℕ) → has_code code fs ≡ true → has_code code (collected found fs) ≡ true
gained [] found code there = absurd (false≢true there)
gained (f ∷ fs) found code there =
    cond_both (has_code f.1 found) found (found ++ f ∷ []) (λ gs. has_code code (collected gs fs) ≡ true)
    (λ had. elim (or_cases (eqb f.1 code) (has_code code fs) there) [
      | inl same ↦ still fs found code (subst (λ c. has_code c found ≡ true) (eqb-true f.1 code same) had)
      | inr more ↦ gained fs found code more
    ])
    (λ had. elim (or_cases (eqb f.1 code) (has_code code fs) there) [
      | inl same ↦ still fs (found ++ f ∷ []) code (list_any-append (λ (g : ℕ × ℕ). eqb g.1 code) found (f ∷ []) ∙ or_right (has_code code found) (has_code code (f ∷ [])) (or_left (eqb f.1 code) false same))
      | inr more ↦ gained fs (found ++ f ∷ []) code more
    ])

-- the failures of a book: each is in its place
abbrev IsPlaced : ℕ → List (Option Verdict) → ℕ × ℕ → Type 0
IsPlaced n slots f = (k : ℕ) × ((f.0 ≡ n + k) × FailsIn slots k f.1)

shifted : (n : ℕ) (s : Option Verdict) (slots : List (Option Verdict)) (f : ℕ × ℕ) → IsPlaced (n + 1) slots f → IsPlaced n (s ∷ slots) f
shifted n s slots f at = (suc at.0, (let is = at.1.0 in omega (arith, is), at.1.1))

placed : (n : ℕ) (slots : List (Option Verdict)) → AllByRecursion (IsPlaced n slots) (failures_from n slots)
placed n [] = tt
placed n (None ∷ slots) = weaker (IsPlaced (n + 1) slots) (IsPlaced n (None ∷ slots)) (shifted n None slots) (failures_from (n + 1) slots) (placed (n + 1) slots)
placed n (Some verdict.Pass ∷ slots) = weaker (IsPlaced (n + 1) slots) (IsPlaced n (Some verdict.Pass ∷ slots)) (shifted n (Some verdict.Pass) slots) (failures_from (n + 1) slots) (placed (n + 1) slots)
placed n (Some (verdict.Fail code) ∷ slots) =
    ((0, (omega arith, refl)), weaker (IsPlaced (n + 1) slots) (IsPlaced n (Some (verdict.Fail code) ∷ slots)) (shifted n (Some (verdict.Fail code)) slots) (failures_from (n + 1) slots) (placed (n + 1) slots))
placed n (Some verdict.Unresolved ∷ slots) =
    weaker (IsPlaced (n + 1) slots) (IsPlaced n (Some verdict.Unresolved ∷ slots)) (shifted n (Some verdict.Unresolved) slots) (failures_from (n + 1) slots) (placed (n + 1) slots)

ascends_from : (n : ℕ) (slots : List (Option Verdict)) → Ascends (failures_from n slots)
ascends_from n [] = tt
ascends_from n (None ∷ slots) = ascends_from (n + 1) slots
ascends_from n (Some verdict.Pass ∷ slots) = ascends_from (n + 1) slots
ascends_from n (Some (verdict.Fail code) ∷ slots) =
    (weaker (IsPlaced (n + 1) slots) (λ g. n < g.0) (λ g at. let is = at.1.0 in omega (arith, is)) (failures_from (n + 1) slots) (placed (n + 1) slots), ascends_from (n + 1) slots)
ascends_from n (Some verdict.Unresolved ∷ slots) = ascends_from (n + 1) slots

abbrev pub slot_fails : Option Verdict → Bool
slot_fails None = false
slot_fails (Some verdict.Pass) = false
slot_fails (Some (verdict.Fail code)) = true
slot_fails (Some verdict.Unresolved) = false

abbrev slot_code : Option Verdict → ℕ
slot_code None = 0
slot_code (Some verdict.Pass) = 0
slot_code (Some (verdict.Fail code)) = code
slot_code (Some verdict.Unresolved) = 0

moved : (p : ℕ × ℕ → Bool) (n k code : ℕ) → p (n + suc k, code) ≡ true → p (n + 1 + k, code) ≡ true
moved p n k code passes = let at : n + 1 + k ≡ n + suc k = omega arith in ap (λ m. p (m, code)) at ∙ passes

-- a failure in the book that passes a test is among the failures
any_there : (p : ℕ × ℕ → Bool) (n : ℕ) (slots : List (Option Verdict)) (k code : ℕ) → FailsIn slots k code → p (n + k, code) ≡ true → list_any p (failures_from n slots) ≡ true
any_there p n [] k code fails passes = absurd (false≢true (ap slot_fails fails))
any_there p n (None ∷ slots) zero code fails passes = absurd (false≢true (ap slot_fails fails))
any_there p n (Some verdict.Pass ∷ slots) zero code fails passes = absurd (false≢true (ap slot_fails fails))
any_there p n (Some verdict.Unresolved ∷ slots) zero code fails passes = absurd (false≢true (ap slot_fails fails))
any_there p n (Some (verdict.Fail c) ∷ slots) zero code fails passes =
    let same : c ≡ code = ap slot_code fails in
    let at : n ≡ n + 0 = omega arith in
    or_left (p (n, c)) (list_any p (failures_from (n + 1) slots)) (ap (λ d. p (n, d)) same ∙ ap (λ m. p (m, code)) at ∙ passes)
any_there p n (None ∷ slots) (suc k) code fails passes = any_there p (n + 1) slots k code fails (moved p n k code passes)
any_there p n (Some verdict.Pass ∷ slots) (suc k) code fails passes = any_there p (n + 1) slots k code fails (moved p n k code passes)
any_there p n (Some verdict.Unresolved ∷ slots) (suc k) code fails passes = any_there p (n + 1) slots k code fails (moved p n k code passes)
any_there p n (Some (verdict.Fail c) ∷ slots) (suc k) code fails passes =
    or_right (p (n, c)) (list_any p (failures_from (n + 1) slots)) (any_there p (n + 1) slots k code fails (moved p n k code passes))

abbrev is_first : List (ℕ × ℕ) → ℕ × ℕ → Bool
is_first fs f = not (list_any (is_earlier f) fs)

-- it fails, and no lower number fails with its code
abbrev IsLeast : (ℕ → ℕ → Type 0) → ℕ × ℕ → Type 0
IsLeast Fails first = Fails first.0 first.1 × ((lower : ℕ) → lower < first.0 → Fails lower first.1 → ⊥)

least_in : (slots : List (Option Verdict)) (f : ℕ × ℕ) → IsPlaced 0 slots f × (is_first (failures_from 0 slots) f ≡ true) → IsLeast (FailsIn slots) f
least_in slots f at =
    let placed_at = at.0.1.0 in
    let same : f.0 ≡ at.0.0 = omega (arith, placed_at) in (
      subst (λ k. FailsIn slots k f.1) (sym same) at.0.1.1,
      λ lower lt fails. both_ways (list_any (is_earlier f) (failures_from 0 slots)) (not-true (list_any (is_earlier f) (failures_from 0 slots)) at.1)
          (any_there (is_earlier f) 0 slots lower f.1 fails (and_from (ltb (0 + lower) f.0) (eqb f.1 f.1) (lt-ltb (0 + lower) f.0 (omega (arith, lt))) (eq-eqb f.1 f.1 refl))),
    )

all_least : (slots : List (Option Verdict)) → All (IsLeast (FailsIn slots)) (first_failures (in_book slots))
all_least slots =
    let fs : List (ℕ × ℕ) = failures_from 0 slots in
    let firsts : List (ℕ × ℕ) = first_failures (in_book slots) in
    each_at (IsLeast (FailsIn slots)) firsts (weaker (λ f. IsPlaced 0 slots f × (is_first fs f ≡ true)) (IsLeast (FailsIn slots)) (least_in slots) firsts
    (both_of (IsPlaced 0 slots) (λ f. is_first fs f ≡ true) firsts (filter_keeps (IsPlaced 0 slots) (is_first fs) fs (placed 0 slots)) (filter_passes (is_first fs) fs)))

-- what a loop over the book finds
pub collected_in : (slots : List (Option Verdict)) → collected [] (failures_from 0 slots) ≡ first_failures (in_book slots)
collected_in slots = collected_is (failures_from 0 slots) [] (ascends_from 0 slots)

of_code : (code : ℕ) (fs : List (ℕ × ℕ)) → Any (λ f. eqb f.1 code ≡ true) fs → Any (λ f. f.1 ≡ code) fs
of_code code fs any = (any.0, any.1, any.2, any.3, eqb-true any.1.1 code any.4)

all_codes : (slots : List (Option Verdict)) (n code : ℕ) → FailsIn slots n code → Any (λ f. f.1 ≡ code) (first_failures (in_book slots))
all_codes slots n code fails =
    of_code code (first_failures (in_book slots)) (Any-from_list_any (λ (f : ℕ × ℕ). eqb f.1 code) (first_failures (in_book slots))
    (ap (has_code code) (sym (collected_in slots)) ∙ gained (failures_from 0 slots) [] code (any_there (λ f. eqb f.1 code) 0 slots n code fails (eq-eqb code code refl))))

-- a book's first failures
pub firsts_in : (slots : List (Option Verdict)) → AreFirstFailures (FailsIn slots) (first_failures (in_book slots))
firsts_in slots =
    let fs : List (ℕ × ℕ) = failures_from 0 slots in
    let firsts : List (ℕ × ℕ) = first_failures (in_book slots) in
    let in_order : AllPairs (λ a b. a.0 < b.0) firsts = pairs_at firsts (filter_ascends (is_first fs) fs (ascends_from 0 slots)) in
    record {
      least = all_least slots;
      complete = all_codes slots;
      ascending = in_order;
      distinct = λ i j d lt in_range same.
          (all_least slots j d in_range).1 (get_or firsts i d).0 (in_order i j d lt in_range)
          (subst (λ code. FailsIn slots (get_or firsts i d).0 code) same (all_least slots i d (omega (arith, lt, in_range))).0);
    }

-- the first failure is the first of them
filter_head : (fs : List (ℕ × ℕ)) → Ascends fs → slice_get (filter (is_first fs) fs) 0 ≡ slice_get fs 0
filter_head [] asc = refl
filter_head (f ∷ fs) asc = ap (λ b. slice_get (cond (not b) (f ∷ filter (is_first (f ∷ fs)) fs) (filter (is_first (f ∷ fs)) fs)) 0) (first_of_later f fs asc.0)

head_from : (n : ℕ) (slots : List (Option Verdict)) → slice_get (failures_from n slots) 0 ≡ first_in n slots
head_from n [] = refl
head_from n (None ∷ slots) = head_from (n + 1) slots
head_from n (Some verdict.Pass ∷ slots) = head_from (n + 1) slots
head_from n (Some (verdict.Fail code) ∷ slots) = refl
head_from n (Some verdict.Unresolved ∷ slots) = head_from (n + 1) slots

pub head_in : (slots : List (Option Verdict)) → slice_get (first_failures (in_book slots)) 0 ≡ first_in 0 slots
head_in slots = filter_head (failures_from 0 slots) (ascends_from 0 slots) ∙ head_from 0 slots

pub at_end : (found whole : List (ℕ × ℕ)) (n : ℕ) (slots : List (Option Verdict)) → length slots ≤ n → collected found (failures_from n (drop n slots)) ≡ whole → found ≡ whole
at_end found whole n slots far so_far = sym (ap (λ s. collected found (failures_from n s)) (drop_all n slots far)) ∙ so_far

-- a full book has the verdicts' pairs
full_from : (n : ℕ) (vs : List Verdict) → filter_map with_number (enumerate_from n (map Some vs)) ≡ enumerate_from n vs
full_from n [] = refl
full_from n (v ∷ vs) = ap (λ ps. (n, v) ∷ ps) (full_from (n + 1) vs)

pub firsts_full : (vs : List Verdict) → first_failures (in_book (map Some vs)) ≡ first_failures (numbered vs)
firsts_full vs = ap first_failures (full_from 0 vs)

abbrev told : Option Verdict → Verdict
told None = verdict.Pass
told (Some v) = v

to_full : (vs : List Verdict) (i code : ℕ) → FailsAt vs i code → FailsIn (map Some vs) i code
to_full [] i code fails = absurd (false≢true (ap (λ v. slot_fails (Some v)) fails))
to_full (v ∷ vs) zero code fails = ap Some fails
to_full (v ∷ vs) (suc i) code fails = to_full vs i code fails

from_full : (vs : List Verdict) (i code : ℕ) → FailsIn (map Some vs) i code → FailsAt vs i code
from_full [] i code fails = absurd (false≢true (ap slot_fails fails))
from_full (v ∷ vs) zero code fails = ap told fails
from_full (v ∷ vs) (suc i) code fails = from_full vs i code fails

-- the first failures of a list of verdicts
pub firsts_of : (vs : List Verdict) → AreFirstFailures (FailsAt vs) (first_failures (numbered vs))
firsts_of vs = subst (AreFirstFailures (FailsAt vs)) (firsts_full vs) (
    let full = firsts_in (map Some vs) in record {
      least = λ k d lt. let least = full.least k d lt in
          (from_full vs _ _ least.0, λ lower below fails. least.1 lower below (to_full vs _ _ fails));
      complete = λ n code fails. full.complete n code (to_full vs n code fails);
      ascending = full.ascending;
      distinct = full.distinct;
    })

pub head_of : (vs : List Verdict) → slice_get (first_failures (numbered vs)) 0 ≡ first_from 0 vs
head_of vs = ap (λ fs. slice_get fs 0) (sym (firsts_full vs)) ∙ head_in (map Some vs) ∙ first_full 0 vs

-- the first failure is the least
pub first_of : (vs : List Verdict) → IsFirstFailure (FailsAt vs) (first_from 0 vs)
first_of vs = subst (IsFirstFailure (FailsAt vs)) (first_full 0 vs) (of_full vs (first_in 0 (map Some vs)) (least_slot (map Some vs)))
  where
    of_full : (vs : List Verdict) (first : Option (ℕ × ℕ)) → IsFirstFailure (FailsIn (map Some vs)) first → IsFirstFailure (FailsAt vs) first
    of_full vs None none = λ n code fails. none n code (to_full vs n code fails)
    of_full vs (Some first) is = (from_full vs _ _ is.0, λ n code lt fails. is.1 n code lt (to_full vs n code fails))
