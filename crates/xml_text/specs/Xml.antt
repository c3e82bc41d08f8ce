-- Texts inside XML: XML 1.0, 2.2 "Characters", 2.4 "Character Data and Markup", 4.1 "Character and Entity References", and 4.6 "Predefined
-- Entities".
use Rattle.std.specs.Prelude.{ℕ, Bool, ◌==◌, ◌||◌, nat_lt, if◌then◌else◌, List, codes, flat_map}
use Rattle.std.specs.Str.{chars}
use Rattle.std.specs.Char.{encode_utf8}

-- Whether XML may not have a character, not even by a reference. It may have tabs and ends of lines, but they are below 32 too, so `escape` takes
-- them first.
abbrev pub is_forbidden : ℕ → Bool
is_forbidden c = nat_lt c 32 || (c == 65534 || c == 65535)

-- How a character is written in content and between quotes: `&`, `<`, `>`, `"` and `'` by their names; tabs and ends of lines by their numbers, since
-- a reader would take them for blanks as they are; a forbidden character as U+FFFD; and any other as it is.
abbrev pub escape : ℕ → List ℕ
escape c =
    if c == 38 then codes "&amp;"
    else if c == 60 then codes "&lt;"
    else if c == 62 then codes "&gt;"
    else if c == 34 then codes "&quot;"
    else if c == 39 then codes "&apos;"
    else if c == 9 then codes "&#9;"
    else if c == 10 then codes "&#10;"
    else if c == 13 then codes "&#13;"
    else if is_forbidden c then encode_utf8 65533
    else encode_utf8 c

-- A text as it is written inside XML.
abbrev pub escaped : List ℕ → List ℕ
escaped text = flat_map escape (chars text)
