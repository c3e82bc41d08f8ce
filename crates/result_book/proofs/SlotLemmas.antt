-- What a book comes to into which a verdict was put.
use Rattle.std.proofs.Common.{◌≡◌, is_some, ℕ, zero, suc, ◌+◌, ◌<◌, ◌≤◌, true, false, Option, Some, None, List, [], ◌∷◌, length, map, get_or, set, replicate, refl, sym, ap, ◌∙◌, arith, add-zero}
use Rattle.std.specs.List.{list_all}
use Rattle.std.proofs.lemmas.Bool.{false≢true}
use Rattle.target_trait.specs.declared.judgement.Verdict.{Verdict}
use Rattle.scenario_values.specs.Scenario.{Entries}
use Rattle.result_book.specs.Verdicts.{verdicts_from}
use Rattle.result_book.specs.FirstFailure.{failing, first_from}
use Rattle.result_book.specs.Slots.{has, first_in, is_full, enter, present}

-- what was put agrees with these verdicts
abbrev pub agrees_at : Option Verdict → Verdict → Type 0
agrees_at None v = Unit {0}
agrees_at (Some w) v = w ≡ v

abbrev pub Agrees : List (Option Verdict) → List Verdict → Type 0
Agrees [] [] = Unit {0}
Agrees [] (v ∷ vs) = ⊥
Agrees (s ∷ slots) [] = ⊥
Agrees (s ∷ slots) (v ∷ vs) = agrees_at s v × Agrees slots vs

pub enter_new : (slots : List (Option Verdict)) (n : ℕ) (v : Verdict) → n < length slots → has slots n ≡ false → set slots n (Some v) ≡ enter slots n v
enter_new [] n v lt free = refl
enter_new (None ∷ slots) zero v lt free = refl
enter_new (Some w ∷ slots) zero v lt free = absurd (false≢true (sym free))
enter_new (None ∷ slots) (suc n) v lt free = ap (λ s. None ∷ s) (enter_new slots n v (omega arith) free)
enter_new (Some w ∷ slots) (suc n) v lt free = ap (λ s. Some w ∷ s) (enter_new slots n v (omega arith) free)

pub enter_twice : (slots : List (Option Verdict)) (n : ℕ) (v : Verdict) → has slots n ≡ true → slots ≡ enter slots n v
enter_twice [] n v taken = refl
enter_twice (None ∷ slots) zero v taken = absurd (false≢true taken)
enter_twice (Some w ∷ slots) zero v taken = refl
enter_twice (None ∷ slots) (suc n) v taken = ap (λ s. None ∷ s) (enter_twice slots n v taken)
enter_twice (Some w ∷ slots) (suc n) v taken = ap (λ s. Some w ∷ s) (enter_twice slots n v taken)

pub enter_far : (slots : List (Option Verdict)) (n : ℕ) (v : Verdict) → length slots ≤ n → slots ≡ enter slots n v
enter_far [] n v far = refl
enter_far (None ∷ slots) zero v far = absurd (omega arith)
enter_far (Some w ∷ slots) zero v far = absurd (omega arith)
enter_far (None ∷ slots) (suc n) v far = ap (λ s. None ∷ s) (enter_far slots n v (omega arith))
enter_far (Some w ∷ slots) (suc n) v far = ap (λ s. Some w ∷ s) (enter_far slots n v (omega arith))

-- the length stays
pub length_enter : (slots : List (Option Verdict)) (n : ℕ) (v : Verdict) → length (enter slots n v) ≡ length slots
length_enter [] n v = refl
length_enter (None ∷ slots) zero v = refl
length_enter (Some w ∷ slots) zero v = refl
length_enter (None ∷ slots) (suc n) v = ap suc (length_enter slots n v)
length_enter (Some w ∷ slots) (suc n) v = ap suc (length_enter slots n v)

-- what is there stays, and what is put is there
pub has_enter : (slots : List (Option Verdict)) (n m : ℕ) (v : Verdict) → has slots m ≡ true → has (enter slots n v) m ≡ true
has_enter [] n m v there = there
has_enter (None ∷ slots) zero zero v there = refl
has_enter (Some w ∷ slots) zero zero v there = refl
has_enter (None ∷ slots) zero (suc m) v there = there
has_enter (Some w ∷ slots) zero (suc m) v there = there
has_enter (None ∷ slots) (suc n) zero v there = there
has_enter (Some w ∷ slots) (suc n) zero v there = there
has_enter (None ∷ slots) (suc n) (suc m) v there = has_enter slots n m v there
has_enter (Some w ∷ slots) (suc n) (suc m) v there = has_enter slots n m v there

pub has_entered : (slots : List (Option Verdict)) (n : ℕ) (v : Verdict) → n < length slots → has (enter slots n v) n ≡ true
has_entered [] n v lt = absurd (omega arith)
has_entered (None ∷ slots) zero v lt = refl
has_entered (Some w ∷ slots) zero v lt = refl
has_entered (None ∷ slots) (suc n) v lt = has_entered slots n v (omega arith)
has_entered (Some w ∷ slots) (suc n) v lt = has_entered slots n v (omega arith)

-- what is put agrees
pub agrees_enter : (slots : List (Option Verdict)) (vs : List Verdict) (n : ℕ) (v d : Verdict) → Agrees slots vs → (n < length vs → v ≡ get_or vs n d) → Agrees (enter slots n v) vs
agrees_enter [] [] n v d agrees is = tt
agrees_enter [] (w ∷ vs) n v d agrees is = agrees
agrees_enter (s ∷ slots) [] n v d agrees is = absurd agrees
agrees_enter (None ∷ slots) (w ∷ vs) zero v d agrees is = (is (omega arith), agrees.1)
agrees_enter (Some u ∷ slots) (w ∷ vs) zero v d agrees is = agrees
agrees_enter (None ∷ slots) (w ∷ vs) (suc n) v d agrees is = (tt, agrees_enter slots vs n v d agrees.1 (λ lt. is (omega arith)))
agrees_enter (Some u ∷ slots) (w ∷ vs) (suc n) v d agrees is = (agrees.0, agrees_enter slots vs n v d agrees.1 (λ lt. is (omega arith)))

pub agrees_empty : (vs : List Verdict) → Agrees (replicate (length vs) None) vs
agrees_empty [] = tt
agrees_empty (v ∷ vs) = (tt, agrees_empty vs)

-- A book that has each number and agrees is full of exactly these verdicts.
pub full_is : (slots : List (Option Verdict)) (vs : List Verdict) → Agrees slots vs → ((n : ℕ) → n < length slots → has slots n ≡ true) → slots ≡ map Some vs
full_is [] [] agrees each = refl
full_is [] (v ∷ vs) agrees each = absurd agrees
full_is (s ∷ slots) [] agrees each = absurd agrees
full_is (None ∷ slots) (v ∷ vs) agrees each = absurd (false≢true (each 0 (omega arith)))
full_is (Some w ∷ slots) (v ∷ vs) agrees each = ap (λ u. Some u ∷ slots) agrees.0 ∙ ap (λ s. Some v ∷ s) (full_is slots vs agrees.1 (λ n lt. each (suc n) (omega arith)))

pub whole_full : (vs : List Verdict) → list_all is_full (map Some vs) ≡ true
whole_full [] = refl
whole_full (v ∷ vs) = whole_full vs

pub first_full : (n : ℕ) (vs : List Verdict) → first_in n (map Some vs) ≡ first_from n vs
first_full n [] = refl
first_full n (v ∷ vs) = ap (failing n v) (first_full (n + 1) vs)

-- the verdicts by their numbers
pub length_verdicts : (verdict : ℕ → Entries → Verdict) (n : ℕ) (plans : List Entries) → length (verdicts_from verdict n plans) ≡ length plans
length_verdicts verdict n [] = refl
length_verdicts verdict n (plan ∷ plans) = ap suc (length_verdicts verdict (n + 1) plans)

pub verdict_at : (verdict : ℕ → Entries → Verdict) (n : ℕ) (plans : List Entries) (i : ℕ) (d : Verdict) → i < length plans → verdict (n + i) (get_or plans i []) ≡ get_or (verdicts_from verdict n plans) i d
verdict_at verdict n [] i d lt = absurd (omega arith)
verdict_at verdict n (plan ∷ plans) zero d lt = ap (λ k. verdict k plan) (add-zero n)
verdict_at verdict n (plan ∷ plans) (suc i) d lt = ap (λ k. verdict k (get_or plans i [])) (moved n i) ∙ verdict_at verdict (n + 1) plans i d (omega arith)
  where
    moved : (n i : ℕ) → n + suc i ≡ n + 1 + i
    moved n i = omega arith

-- The same if a place is looked up without that.
pub taken_in : (slots : List (Option Verdict)) (n : ℕ) (slot : Option Verdict) → slot ≡ get_or slots n None → is_some slot ≡ has slots n
taken_in slots n slot is = ap is_some is ∙ seen (get_or slots n None)
  where
    seen : (s : Option Verdict) → is_some s ≡ elim s [ None ↦ false | Some v ↦ true ]
    seen None = refl
    seen (Some v) = refl

pub present_full : (vs : List Verdict) → present (map Some vs) ≡ vs
present_full [] = refl
present_full (v ∷ vs) = ap (λ ws. v ∷ ws) (present_full vs)
