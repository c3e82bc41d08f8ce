-- The decimals that are printed have the value that they were printed for.
use Rattle.std.proofs.Common.{◌≡◌, ℕ, suc, ◌+◌, ◌-◌, ◌*◌, ◌/◌, ◌%◌, ◌^◌, ◌<◌, ◌≤◌, List, [], ◌∷◌, ◌++◌, Bool, true, false, eqb, cond, length, refl, ap, sym, ◌∙◌, arith, subst}
use Rattle.std.specs.Fmt.{decimal}
use Rattle.std.specs.Char.{is_ascii_digit, digit_value}
use Rattle.std.specs.List.{list_all}
use Rattle.std.specs.Str.Parse.{digits_value_after}
use Rattle.std.proofs.Math.Nat.{add-mul, mul_assoc, pow-succ'}
use Rattle.std.proofs.lemmas.Bool.Decides.{nat_tests}
use Rattle.std.proofs.lemmas.Fmt.{decimal_digit}
use Rattle.std.proofs.lemmas.Str.{digit_value_digit}
use Rattle.scenario_values.specs.Printed.{decimals_of}
use Rattle.scenario_grammar.proofs.CutLaws.{and_both}

-- digits that are worth n in this many places
pub record Fraction (places n : ℕ) (ds : List ℕ) : Type 0 where
  pub digits : list_all is_ascii_digit ds ≡ true
  pub few : length ds ≤ places
  pub some : 0 < n → 0 < length ds
  pub value : (a : ℕ) → digits_value_after 10 a ds * 10 ^ (places - length ds) ≡ a * 10 ^ places + n

glyph : (d : ℕ) → d < 10 → is_ascii_digit (48 + d) ≡ true
glyph d less = grind (arith, nat_tests)

glyph_value : (d : ℕ) → d < 10 → digit_value (48 + d) ≡ d
glyph_value d less = let e = digit_value_digit (48 + d) (omega arith, omega arith) in omega arith

weighed : (a d q r n x : ℕ) → x ≡ (a * 10 + d) * q + r → n ≡ d * q + r → x ≡ a * (10 * q) + n
weighed a d q r n x e f =
    let g = add-mul (a * 10) d q in
    let h = mul_assoc a 10 q in
    omega arith

with_digit : (places n d r : ℕ) (rest : List ℕ) → d < 10 → n ≡ d * 10 ^ places + r → Fraction places r rest → Fraction (suc places) n ((48 + d) ∷ rest)
with_digit places n d r rest less e h = record {
  digits = and_both (is_ascii_digit (48 + d)) (list_all is_ascii_digit rest) (glyph d less) h.digits;
  few = let f = h.few in omega arith;
  some = λ s. omega arith;
  value = λ a.
      let v : digit_value (48 + d) ≡ d = glyph_value d less in
      let same : digits_value_after 10 (a * 10 + digit_value (48 + d)) rest * 10 ^ (suc places - suc (length rest)) ≡ digits_value_after 10 (a * 10 + d) rest * 10 ^ (places - length rest)
      = ap (λ (k : ℕ). digits_value_after 10 (a * 10 + k) rest * 10 ^ (suc places - suc (length rest))) v ∙ ap (λ (k : ℕ). digits_value_after 10 (a * 10 + d) rest * 10 ^ k) (omega arith) in
      weighed a d (10 ^ places) r n (digits_value_after 10 (a * 10 + digit_value (48 + d)) rest * 10 ^ (suc places - suc (length rest))) (same ∙ h.value (a * 10 + d)) e
      ∙ ap (λ (k : ℕ). a * k + n) (sym (pow-succ' 10 places));
}

no_digits : (places n : ℕ) → n ≡ 0 → Fraction places n []
no_digits places n e = record {
  digits = refl;
  few = omega arith;
  some = λ s. absurd (omega arith);
  value = λ a.
      let all : places - 0 ≡ places = omega arith in
      let more : a * 10 ^ places ≡ a * 10 ^ places + n = omega arith in
      ap (λ (k : ℕ). a * 10 ^ k) all ∙ more;
}

is_zero : (n : ℕ) → eqb n 0 ≡ true → n ≡ 0
is_zero n h = grind (arith, nat_tests)

step : (places n : ℕ) → n / 10 ^ places < 10 → n ≡ n / 10 ^ places * 10 ^ places + n % 10 ^ places → Fraction places (n % 10 ^ places) (decimals_of places (n % 10 ^ places)) → Fraction (suc places) n (decimals_of (suc places) n)
step places n less e rest = by_test (eqb n 0) refl
  where
    P : List ℕ → Type 0
    P ds = Fraction (suc places) n (ds ++ decimals_of places (n % 10 ^ places))

    by_test : (t : Bool) → eqb n 0 ≡ t → Fraction (suc places) n (cond t [] (decimal (n / 10 ^ places) ++ decimals_of places (n % 10 ^ places)))
    by_test true is = no_digits (suc places) n (is_zero n is)
    by_test false is = subst P (sym (decimal_digit (n / 10 ^ places) less)) (with_digit places n (n / 10 ^ places) (n % 10 ^ places) (decimals_of places (n % 10 ^ places)) less e rest)

pub four_places : (n : ℕ) → n < 10000 → Fraction 4 n (decimals_of 4 n)
four_places n less = step 3 n (omega arith) (omega arith) (three (n % 1000) (omega arith))
  where
    none : (n : ℕ) → n < 1 → Fraction 0 n (decimals_of 0 n)
    none n less = no_digits 0 n (omega arith)

    one : (n : ℕ) → n < 10 → Fraction 1 n (decimals_of 1 n)
    one n less = step 0 n (omega arith) (omega arith) (none (n % 1) (omega arith))

    two : (n : ℕ) → n < 100 → Fraction 2 n (decimals_of 2 n)
    two n less = step 1 n (omega arith) (omega arith) (one (n % 10) (omega arith))

    three : (n : ℕ) → n < 1000 → Fraction 3 n (decimals_of 3 n)
    three n less = step 2 n (omega arith) (omega arith) (two (n % 100) (omega arith))
