-- A text, kept in 32 bytes.
use Rattle.std.proofs.Common.{◌≡◌, ℕ, zero, suc, ◌-◌, ◌≤◌, true, List, ◌++◌, length, length-append, take, drop, ap, sym, subst, ◌∙◌, arith}
use Rattle.std.specs.Prelude.{IsUtf8}
use Rattle.std.proofs.lemmas.List.{length-replicate, take_at}
use Rattle.scenario_values.specs.Scenario.{is_argument}
use Rattle.action_eval.specs.inside.Arguments.{zeros, IsKept}

drop_zeros : (n m : ℕ) → drop n (zeros m) ≡ zeros (m - n)
drop_zeros zero m = ap zeros (let same : m ≡ m - 0 = omega arith in same)
drop_zeros (suc n) zero = ap zeros (let none : 0 ≡ 0 - suc n = omega arith in none)
drop_zeros (suc n) (suc m) = drop_zeros n m ∙ ap zeros (let less : m - n ≡ suc m - suc n = omega arith in less)

abbrev pub after_it : List ℕ → List ℕ → List ℕ
after_it source new = new ++ drop (length source) (zeros 32)

pub is_kept : (source new : List ℕ) → new ≡ source → length source ≤ 32 → IsUtf8 source → is_argument source ≡ true → IsKept true (length source) (after_it source new)
is_kept source new e h u lawful =
    let bytes = after_it source new in
    let front : take (length source) bytes ≡ source = take_at new (drop (length source) (zeros 32)) (length source) (ap length e) ∙ e in
    record {
      few = h;
      whole =
          omega (arith, length-append new (drop (length source) (zeros 32)), ap length e, ap length (drop_zeros (length source) 32), length-replicate {A = ℕ}, h);
      padded = ap (λ l. l ++ drop (length source) (zeros 32)) (e ∙ sym front) ∙ ap (λ l. take (length source) bytes ++ l) (drop_zeros (length source) 32);
      text = ∣ subst IsUtf8 (sym front) u ∣₁;
      lawful = ap is_argument front ∙ lawful;
      none = λ no. absurd cc;
    }
