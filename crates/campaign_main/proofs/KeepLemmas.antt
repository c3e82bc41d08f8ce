-- The calls that the hits of a power cut stand for.
use Rattle.std.proofs.Common.{◌≡◌, ◌∙◌, ◌++◌, [], ℕ, List, String, Global, length, map, min, string_bytes, sym, ap, take}
use Rattle.std.proofs.lemmas.List.{take-map, take_min}
use Rattle.report.specs.ReportText.{text_of}
use Rattle.campaign_main.specs.Commands.{keep_lines}

-- the first of the calls that are told are the told ones' first
first-told : (calls : List (String Global)) (met asked : ℕ) → met ≡ min asked (length calls) → map string_bytes (take met calls) ≡ take asked (map string_bytes calls)
first-told calls met asked is = ap (λ n. map string_bytes (take n calls)) is ∙ ap (map string_bytes) (take_min asked calls) ∙ sym (take-map string_bytes asked calls)

-- the whole text of them
pub keeps-told : (calls : List (String Global)) (met asked n : ℕ) (old text : List ℕ) → old ≡ [] → text ≡ old ++ text_of (keep_lines (map string_bytes (take met calls)))
    → met ≡ min asked (length calls) → asked ≡ n → text ≡ text_of (keep_lines (take n (map string_bytes calls)))
keeps-told calls met asked n old text none added is of =
    added ∙ ap (λ (x : List ℕ). x ++ text_of (keep_lines (map string_bytes (take met calls)))) none
    ∙ ap (λ (l : List (List ℕ)). text_of (keep_lines l)) (first-told calls met asked is ∙ ap (λ m. take m (map string_bytes calls)) of)
