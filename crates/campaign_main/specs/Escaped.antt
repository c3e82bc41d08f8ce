-- Texts of somebody else's, such as a key of settings, as a line on a terminal has them.
use Rattle.std.specs.Prelude.{ℕ, ◌++◌, ◌∷◌, [], ◌/◌, ◌%◌, List, codes, false, flat_map, if◌then◌else◌}
use Rattle.std.specs.Char.{encode_utf8, is_control}
use Rattle.std.specs.Fmt.{digit_glyph}
use Rattle.std.specs.Str.{chars}

-- A control character of Unicode, of which each terminal takes some for a command, stands as `\x` and the two digits of its number to the base 16, such
-- as `\x1b` or `\x9b`, and any other character as it is.
abbrev pub shown : ℕ → List ℕ
shown c =
    if is_control c then codes "\\x" ++ digit_glyph false (c / 16) ∷ digit_glyph false (c % 16) ∷ []
    else encode_utf8 c

-- So no text of somebody else's begins another line, or begins a command of the terminal.
abbrev pub escaped : List ℕ → List ℕ
escaped text = flat_map shown (chars text)
