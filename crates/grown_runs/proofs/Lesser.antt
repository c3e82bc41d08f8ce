-- Rigged hits with one left out.
use Rattle.std.proofs.Common.{◌≡◌, ℕ, zero, suc, ◌+◌, ◌-◌, ◌<◌, ◌≤◌, List, [], ◌∷◌, ◌++◌, length, get_or, take, drop, refl, ap, sym, ◌∙◌, subst, arith, Bool, true, false, ◌&&◌}
use Rattle.std.specs.Prelude.{slice_range}
use Rattle.std.specs.List.{AllByRecursion, list_all}
use Rattle.std.proofs.lemmas.List.{get_or-map, length-map}
use Rattle.std.proofs.lemmas.List.Folds.{list_all_at, list_all_more}
use Rattle.action_eval.specs.declared.rig.Rig.{Rig}
use Rattle.action_eval.specs.RiggedScenario.{HasLawfulText, CanBeRigged}
use Rattle.grown_plans.specs.Promises.{lesser}

abbrev pub without : ℕ → List Rig → List Rig
without i [] = []
without zero (r ∷ rs) = rs
without (suc i) (r ∷ rs) = r ∷ without i rs

pub lesser_length : (rs : List Rig) → length (lesser rs) ≡ length rs
lesser_length [] = refl
lesser_length (r ∷ rs) = ap (λ n. suc n) (length-map (lesser rs) (λ less. r ∷ less) ∙ lesser_length rs)

lesser_at : (rs : List Rig) (i : ℕ) → i < length rs → get_or (lesser rs) i [] ≡ without i rs
lesser_at [] i lt = absurd (omega (arith, lt))
lesser_at (r ∷ rs) zero lt = refl
lesser_at (r ∷ rs) (suc i) lt =
    let low : i < length rs = omega (arith, lt) in
    let many = lesser_length rs in
    get_or-map (λ less. r ∷ less) (lesser rs) i [] [] (omega (arith, low, many)) ∙ ap (λ less. r ∷ less) (lesser_at rs i low)

take_whole : {A : Type 0} (rs : List A) (n : ℕ) → length rs ≤ n → take n rs ≡ rs
take_whole [] zero le = refl
take_whole [] (suc n) le = refl
take_whole (r ∷ rs) zero le = absurd (omega (arith, le))
take_whole (r ∷ rs) (suc n) le = ap (λ l. r ∷ l) (take_whole rs n (omega (arith, le)))

parts_are : (rs : List Rig) (i : ℕ) → i < length rs → take i rs ++ drop (suc i) rs ≡ without i rs
parts_are [] i lt = absurd (omega (arith, lt))
parts_are (r ∷ rs) zero lt = refl
parts_are (r ∷ rs) (suc i) lt = ap (λ l. r ∷ l) (parts_are rs i (omega (arith, lt)))

drop_length : (rs : List Rig) (i : ℕ) → length (drop i rs) ≡ length rs - i
drop_length rs zero = omega arith
drop_length [] (suc i) = omega arith
drop_length (r ∷ rs) (suc i) = let rest = drop_length rs i in omega (arith, rest)

slices_are : (rs : List Rig) (i : ℕ) → i < length rs → slice_range rs 0 i ++ slice_range rs (i + 1) (length rs) ≡ without i rs
slices_are rs i lt =
    let long = drop_length rs (i + 1) in
    ap (λ k. take k rs ++ slice_range rs (i + 1) (length rs)) (let e : i - 0 ≡ i = omega arith in e)
    ∙ ap (λ l. take i rs ++ l) (take_whole (drop (i + 1) rs) (length rs - (i + 1)) (omega (arith, long)))
    ∙ ap (λ k. take i rs ++ drop k rs) (let e : i + 1 ≡ suc i = omega arith in e)
    ∙ parts_are rs i lt

-- what is left is that of the lists with one left out
pub left_is : (rs : List Rig) (i : ℕ) (less : List Rig) → i < length rs → less ≡ slice_range rs 0 i ++ slice_range rs (i + 1) (length rs)
    → less ≡ get_or (lesser rs) i []
left_is rs i less lt is = is ∙ slices_are rs i lt ∙ sym (lesser_at rs i lt)

without_length : (rs : List Rig) (i : ℕ) → length (without i rs) ≤ length rs
without_length [] i = omega arith
without_length (r ∷ rs) zero = omega arith
without_length (r ∷ rs) (suc i) = let rest = without_length rs i in omega (arith, rest)

without_all : (P : Rig → Type 0) (rs : List Rig) (i : ℕ) → AllByRecursion P rs → AllByRecursion P (without i rs)
without_all P [] i all = tt
without_all P (r ∷ rs) zero all = all.1
without_all P (r ∷ rs) (suc i) all = (all.0, without_all P rs i all.1)

pub left_can : (rs : List Rig) (i : ℕ) (less : List Rig) → i < length rs → less ≡ slice_range rs 0 i ++ slice_range rs (i + 1) (length rs) → CanBeRigged rs → CanBeRigged less
left_can rs i less lt is can =
    subst CanBeRigged (sym (is ∙ slices_are rs i lt)) (
      let short = without_length rs i in let few = can.0 in omega (arith, short, few),
      without_all (λ (r : Rig). r.site.hit < 4294967296) rs i can.1,
      without_all (λ (r : Rig). HasLawfulText r.kind) rs i can.2,
    )

-- ---- none of them fails so far

abbrev pub AreFine : (List Rig → Bool) → List Rig → ℕ → Type 0
AreFine test rs i = list_all test (take i (lesser rs)) ≡ true

both : (a b : Bool) → a ≡ true → b ≡ true → (a && b) ≡ true
both true b p q = q
both false b p q = p

pub fine_next : (test : List Rig → Bool) (rs : List Rig) (i : ℕ) (less : List Rig) → i < length rs → less ≡ slice_range rs 0 i ++ slice_range rs (i + 1) (length rs)
    → test less ≡ true → AreFine test rs i → AreFine test rs (i + 1)
fine_next test rs i less lt is ok so_far =
    let many = lesser_length rs in
    list_all_more test (lesser rs) i [] (omega (arith, lt, many)) ∙ both (list_all test (take i (lesser rs))) (test (get_or (lesser rs) i [])) so_far
    (ap test (sym (left_is rs i less lt is)) ∙ ok)

pub fine_all : (test : List Rig → Bool) (rs : List Rig) (i : ℕ) → length rs ≤ i → AreFine test rs i → list_all test (lesser rs) ≡ true
fine_all test rs i le so_far =
    let many = lesser_length rs in
    ap (list_all test) (sym (take_whole (lesser rs) i (omega (arith, le, many)))) ∙ so_far

pub fails_at : (test : List Rig → Bool) (rs : List Rig) (i : ℕ) (less : List Rig) → i < length rs → less ≡ slice_range rs 0 i ++ slice_range rs (i + 1) (length rs)
    → test less ≡ false → list_all test (lesser rs) ≡ false
fails_at test rs i less lt is bad =
    let many = lesser_length rs in
    list_all_at test (lesser rs) i [] (omega (arith, lt, many)) (ap test (sym (left_is rs i less lt is)) ∙ bad)
