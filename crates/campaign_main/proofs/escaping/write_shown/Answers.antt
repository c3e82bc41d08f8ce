use Rattle.std.proofs.Common.{rules, ◌≡◌, ◌++◌, ◌∷◌, [], ◌/◌, ◌%◌, ◌^◌, ◌-◌, inl, inr, Bool, true, List, OnOk, ℕ, ◌<◌, ◌≤◌, ◌⊎◌, arith, false, subst, sym, string_bytes}
use Rattle.std.specs.Prelude.{codes, if◌then◌else◌, nat_le}
use Rattle.std.proofs.lemmas.Bool.{and_parts, leb-true, or_cases}
use Rattle.std.proofs.lemmas.Fmt.{hex_byte}
use Rattle.std.specs.Char.{encode_utf8, is_control}
use Rattle.std.specs.Int.{is_in_range}
use Rattle.std.specs.Fmt.{digit_glyph, digits, format_spec, padded_integral}
use Rattle.campaign_main.proofs.escaping.write_shown.Goals as goal

at_most : (low high c : ℕ) → is_in_range low high c ≡ true → c ≤ high
at_most low high c is = leb-true c high (and_parts (nat_le low c) (nat_le c high) is).1

is_byte : (c : ℕ) → is_control c ≡ true → c < 256
is_byte c is = by_range (or_cases (is_in_range 0 31 c) (is_in_range 127 159 c) is)
  where
    by_range : (is_in_range 0 31 c ≡ true) ⊎ (is_in_range 127 159 c ≡ true) → c < 256
    by_range (inl h) = let high = at_most 0 31 c h in omega (arith, high)
    by_range (inr h) = let high = at_most 127 159 c h in omega (arith, high)

pub returns-then-is_control : goal.returns-then-is_control
returns-then-is_control c =
    let byte : ℕ = c.args.character in
    let appends : List ℕ → Type 0 = λ text. OnOk c.write.result (string_bytes c.write.new.self ≡ string_bytes c.args.out.now ++ text) in
    let two : List ℕ = codes "\\x" ++ digit_glyph false (byte / 16) ∷ digit_glyph false (byte % 16) ∷ [] in
    let written : appends (codes "\\x" ++ padded_integral (format_spec 32 0 4 2 (2 ^ 64 - 1)) false [] (digits 16 false byte)) = search rules in
    subst (λ (b : Bool). appends (if b then two else encode_utf8 byte)) c.if-is_control.ensures
    (subst (λ (hex : List ℕ). appends (codes "\\x" ++ hex)) (hex_byte false byte (is_byte byte (sym c.if-is_control.ensures))) written)
