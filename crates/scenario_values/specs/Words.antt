-- Blank characters, and what a text doesn't contain. Texts are lists of bytes.
use Rattle.std.specs.Prelude.{ℕ, ◌-◌, List, [], ◌∷◌, Bool, true, ◌==◌, ◌||◌, ◌&&◌, not, length, take, drop}
use Rattle.std.specs.List.{prefix_len, suffix_len, list_all}

-- The byte is a space, a tab, a line feed or a carriage return.
abbrev pub is_blank : ℕ → Bool
is_blank b = (b == 32) || (b == 9) || (b == 10) || (b == 13)

-- The text without the blanks at its end.
abbrev pub end_trimmed : List ℕ → List ℕ
end_trimmed text = take (length text - suffix_len is_blank text) text

-- The text without the blanks at both ends.
abbrev pub trimmed : List ℕ → List ℕ
trimmed text = end_trimmed (drop (prefix_len is_blank text) text)

-- Whether the text doesn't contain the byte c.
abbrev pub lacks : ℕ → List ℕ → Bool
lacks c text = list_all (λ b. not (b == c)) text

-- Whether the text doesn't contain `->`.
abbrev pub lacks_arrow : List ℕ → Bool
lacks_arrow [] = true
lacks_arrow (b ∷ []) = true
lacks_arrow (b ∷ c ∷ rest) = not ((b == 45) && (c == 62)) && lacks_arrow (c ∷ rest)
