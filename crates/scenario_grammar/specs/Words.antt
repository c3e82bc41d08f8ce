-- How texts are cut at a character, and numbers. Texts are lists of bytes.
use Rattle.std.specs.Prelude.{ℕ, List, [], ◌∷◌, Bool, ◌==◌, ◌&&◌, length, Option, Some, None, nat_lt, if◌then◌else◌}
use Rattle.std.specs.Char.{is_ascii_digit}
use Rattle.std.specs.Option.{option_map}
use Rattle.std.specs.List.{list_all, onto_first}
use Rattle.std.specs.Str.Parse.{digits_value}

-- What comes before and after the first c, if there is one.
abbrev pub cut : ℕ → List ℕ → Option (List ℕ × List ℕ)
cut c [] = None
cut c (b ∷ bs) = if b == c then Some ([], bs) else option_map (λ parts. (b ∷ parts.0, parts.1)) (cut c bs)

-- The text without its last character, if that is c.
abbrev pub without_last : ℕ → List ℕ → Option (List ℕ)
without_last c [] = None
without_last c (b ∷ []) = if b == c then Some [] else None
without_last c (b ∷ d ∷ rest) = option_map (λ front. b ∷ front) (without_last c (d ∷ rest))

-- The text cut at each `->`, from left to right.
unfoldable pub cut_at_arrows : List ℕ → List (List ℕ)
cut_at_arrows [] = [] ∷ []
cut_at_arrows (b ∷ []) = (b ∷ []) ∷ []
cut_at_arrows (b ∷ c ∷ rest) = if (b == 45) && (c == 62) then [] ∷ cut_at_arrows rest else onto_first b (cut_at_arrows (c ∷ rest))

-- The text is one or more digits. Leading zeros are allowed.
abbrev pub is_number : List ℕ → Bool
is_number text = nat_lt 0 (length text) && list_all is_ascii_digit text

-- The value of a number.
abbrev pub number : List ℕ → ℕ
number text = digits_value 10 text
