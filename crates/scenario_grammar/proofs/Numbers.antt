-- The grammar's numbers are those that `parse` reads.
use Rattle.std.proofs.Common.{◌≡◌, ℕ, zero, suc, ◌<◌, ◌≤◌, ◌^◌, List, Bool, true, false, length, arith, rules, Err}
use Rattle.std.specs.Char.{is_ascii_digit}
use Rattle.std.specs.List.{list_all}
use Rattle.std.proofs.Common.{Some, None, refl, ◌&&◌, if◌then◌else◌, nat_le}
use Rattle.std.proofs.lemmas.Bool.Decides.{nat_tests}
use Rattle.std.proofs.lemmas.Grind.{common_steps}
use Rattle.scenario_grammar.specs.Words.{is_number, number}
use Rattle.scenario_grammar.specs.FirstFault.{number_up_to}
use Rattle.std.specs.Str.Parse.{digits_value, ParsesUnsigned}
use Rattle.std.proofs.lemmas.Str.Parse.{IsNumeralModel, parse_digits, numerals_by_value, digits_value_short}

pub own : IsNumeralModel (λ ds. list_all is_ascii_digit ds ≡ true) (digits_value 10)
own = numerals_by_value _ (search rules)

none_unless : {A : Type 0} (t : Bool) (x : A) → (t ≡ true → ⊥) → None ≡ (if t then Some x else None)
none_unless true x never = absurd (never refl)
none_unless false x never = refl

both_parts : (n most : ℕ) (text : List ℕ) → most < 2 ^ 32 → (is_number text && nat_le n most) ≡ true → (0 < length text) × (n < 2 ^ 32)
both_parts n most text small both = grind (arith, nat_tests, common_steps)

-- If `parse` fails on digits, the number is too large.
pub too_large : {E : Type 0} (most : ℕ) (text : List ℕ) (e : E) → most < 2 ^ 32 → is_number text ≡ true → ParsesUnsigned 32 10 text (Err e) → None ≡ number_up_to most text
too_large {E} most text e small digits parsed =
    let fails : ¬ ((0 < length text) × (digits_value 10 text < 2 ^ 32)) = parse_digits own {E = E} 32 text (Err e) parsed (grind (arith, nat_tests, common_steps)) in
    none_unless (is_number text && nat_le (number text) most) (number text) (λ both. fails (both_parts (number text) most text small both))

-- a number of k digits is below 10 ^ k
pub short_number : (text : List ℕ) → is_number text ≡ true → length text ≤ 4 → (0 < length text) × (number text < 10 ^ length text)
short_number text digits short = (grind (arith, nat_tests, common_steps), digits_value_short own text (length text) (grind (arith, nat_tests, common_steps)) (omega arith))

pub small_by_length : (text : List ℕ) → is_number text ≡ true → length text ≤ 4 → number text ≤ 9999
small_by_length text digits short = let h = short_number text digits short in omega (arith, h.1, powers (length text) short)
  where
    powers : (k : ℕ) → k ≤ 4 → 10 ^ k ≤ 10000
    powers zero le = omega arith
    powers (suc zero) le = omega arith
    powers (suc (suc zero)) le = omega arith
    powers (suc (suc (suc zero))) le = omega arith
    powers (suc (suc (suc (suc zero)))) le = omega arith
    powers (suc (suc (suc (suc (suc k))))) le = absurd (omega arith)

pub never_none : {A : Type 0} (text : List ℕ) → is_number text ≡ true → length text ≤ 4 → None ≡ number_up_to 9999 text → A
never_none text digits short h = let le = small_by_length text digits short in absurd (grind (arith, nat_tests, common_steps))
