-- A page: a fixed frame, with a text and a JSON document in it.
use Rattle.std.specs.Prelude.{ℕ, ◌==◌, if◌then◌else◌, List, [], ◌∷◌, ◌++◌, codes, flat_map}
use Rattle.report_page.specs.declared.frame.TheConstants.{BEFORE, BETWEEN, BEHIND}

-- A byte of a text in HTML: `&`, `<` and `>` by their names. HTML has no character 0, so U+FFFD takes its place.
abbrev pub in_html : ℕ → List ℕ
in_html byte =
    if byte == 38 then codes "&amp;"
    else if byte == 60 then codes "&lt;"
    else if byte == 62 then codes "&gt;"
    else if byte == 0 then 239 ∷ 191 ∷ 189 ∷ []
    else byte ∷ []

-- A byte of a JSON document in a script element. JSON has `&`, `<` and `>` only in strings, where they can be written by their numbers.
abbrev pub in_script : ℕ → List ℕ
in_script byte =
    if byte == 38 then codes "\\u0026"
    else if byte == 60 then codes "\\u003c"
    else if byte == 62 then codes "\\u003e"
    else byte ∷ []

-- The page with a brief report's text and a report's document.
unfoldable pub page_text : List ℕ → List ℕ → List ℕ
page_text brief document = BEFORE.now ++ flat_map in_html brief ++ BETWEEN.now ++ flat_map in_script document ++ BEHIND.now
