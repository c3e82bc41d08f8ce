-- The sizes of the levels tell of each number its level, and so how many faults act in its behaviour.
use Rattle.std.proofs.Common.{◌≡◌, ℕ, zero, suc, ◌+◌, ◌-◌, ◌<◌, ◌≤◌, nat_lt, Bool, true, false, cond, Some, List, ◌++◌, map, length, refl, ap, sym, ◌∙◌, subst, arith, append_assoc}
use Rattle.std.specs.Prelude.{flat_map, slice_get}
use Rattle.std.specs.List.{AllByRecursion, range_with_len}
use Rattle.std.proofs.lemmas.Bool.Decides.{nat_tests}
use Rattle.std.proofs.lemmas.List.{append-nil}
use Rattle.action_eval.specs.declared.rig.Rig.{Rig}
use Rattle.grown_plans.specs.Runs.{Met, acting}
use Rattle.grown_plans.specs.GrownPlans.{Subject, level, levels, levels_to, run_of_plan}
use Rattle.grown_plans.specs.Promises.{IsLawful}
use Rattle.grown_plans.proofs.Levels.{IsGrown}
use Rattle.campaign_core.specs.promises.Told.{HasBehaviour, Told, count_of_levels, level_at}
use Rattle.campaign_core.proofs.PromisesLemmas.Counted.{has_acting}
use Rattle.campaign_core.proofs.PromisesLemmas.Listed.{Lists}
use Rattle.campaign_core.proofs.PromisesLemmas.Numbers.{all_at, get_behind, get_in_front, get_unmapped}

-- ---- lists, one behind the other

pub flat_more : {A : Type 0} (f : ℕ → List A) (from n : ℕ) → flat_map f (range_with_len from (n + 1)) ≡ flat_map f (range_with_len from n) ++ f (from + n)
flat_more f from zero = append-nil (f from) ∙ ap f (let goal : from ≡ from + 0 = omega arith in goal)
flat_more {A} f from (suc n) =
    ap (λ k. flat_map f (range_with_len from k)) (let goal : suc n + 1 ≡ suc (n + 1) = omega arith in goal) ∙ ap (λ (l : List A). f from ++ l) (flat_more f (from + 1) n) ∙ sym (append_assoc (f from) (flat_map f (range_with_len (from + 1) n)) (f (from + 1 + n)))
    ∙ ap (λ k. flat_map f (range_with_len from (suc n)) ++ f k) (let goal : from + 1 + n ≡ from + suc n = omega arith in goal)

pub levels_flat : (t : Subject) (d : ℕ) → levels t d ≡ flat_map (level t) (range_with_len 0 (d + 1))
unfolding levels_to level
levels_flat t zero = refl
levels_flat t (suc d) =
    ap (λ (l : List (List Rig)). l ++ level t (suc d)) (levels_flat t d) ∙ ap (λ k. flat_map (level t) (range_with_len 0 (d + 1)) ++ level t k) (let goal : suc d ≡ 0 + (d + 1) = omega arith in goal)
    ∙ sym (flat_more (level t) 0 (d + 1)) ∙ ap (λ k. flat_map (level t) (range_with_len 0 k)) (let goal : d + 1 + 1 ≡ suc d + 1 = omega arith in goal)

-- a member stands in the first list, or in those behind it
in_first : {A : Type 0} (P : ℕ → A → Type 0) (from later : ℕ) (xs rest : List A) (number : ℕ) (x : A) → AllByRecursion (P from) xs
    → (slice_get rest (number - length xs) ≡ Some x → P (from + 1 + later) x) → slice_get (xs ++ rest) number ≡ Some x → P (from + cond (nat_lt number (length xs)) 0 (suc later)) x
in_first {A} P from later xs rest number x each behind e = by_test (nat_lt number (length xs)) refl
  where
    by_test : (b : Bool) → nat_lt number (length xs) ≡ b → P (from + cond b 0 (suc later)) x
    by_test true is =
        let low : number < length xs = grind (arith, nat_tests, is) in
        subst (λ n. P n x) (let goal : from ≡ from + 0 = omega arith in goal) (all_at (P from) xs number x each (get_in_front xs rest number x low e))
    by_test false is =
        let high : length xs ≤ number = grind (arith, nat_tests, is) in
        subst (λ n. P n x) (let goal : from + 1 + later ≡ from + suc later = omega arith in goal) (behind (get_behind xs rest number x high e))

-- what holds of each member of a list by the list's number holds of a member of them all by the number that the sizes tell
at_level : {A : Type 0} (f : ℕ → List A) (P : ℕ → A → Type 0) → ((n : ℕ) → AllByRecursion (P n) (f n)) → (from count number : ℕ) (x : A)
    → slice_get (flat_map f (range_with_len from count)) number ≡ Some x → P (from + level_at (map (λ n. length (f n)) (range_with_len from count)) number) x
at_level f P each from zero number x e = absurd cc
at_level f P each from (suc count) number x e =
    in_first P from (level_at (map (λ n. length (f n)) (range_with_len (from + 1) count)) (number - length (f from))) (f from) (flat_map f (range_with_len (from + 1) count)) number x (each from)
    (at_level f P each (from + 1) count (number - length (f from)) x) e

-- of plans in levels, each of which grew to its level
pub by_level : (t : Subject) → IsLawful t → (first behind : List (List Rig)) (told : Told) → Lists t first behind told → (f : ℕ → List (List Rig)) (d : ℕ) → first ≡ flat_map f (range_with_len 0 (d + 1))
    → told.growth.levels ≡ map (λ n. length (f n)) (range_with_len 0 (d + 1)) → ((n : ℕ) → AllByRecursion (IsGrown t n) (f n))
    → (number : ℕ) (hits : List Met) → number < count_of_levels told → HasBehaviour told number hits → acting hits ≡ level_at told.growth.levels number
by_level t l first behind told g f d flat sizes each number hits low b =
    let of = get_unmapped (run_of_plan t) (first ++ behind) number hits (ap (λ (all : List (List Met)). slice_get all number) (sym g.behaves) ∙ b) in
    let size = g.first_are in
    let there : slice_get first number ≡ Some of.0 = get_in_front first behind number of.0 (omega (arith, low, size)) of.1 in
    let n : ℕ = level_at (map (λ n. length (f n)) (range_with_len 0 (d + 1))) number in
    let grown : IsGrown t (0 + n) of.0 = at_level f (IsGrown t) each 0 (d + 1) number of.0 (ap (λ (plans : List (List Rig)). slice_get plans number) (sym flat) ∙ there) in
    ap (λ (ms : List Met). acting ms) (sym of.2) ∙ (has_acting t l (0 + n) of.0 grown).1 ∙ (let goal : 0 + n ≡ n = omega arith in goal)
    ∙ ap (λ (ns : List ℕ). level_at ns number) (sym sizes)
