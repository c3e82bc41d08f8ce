-- Lines that are written one after the other.
use Rattle.std.proofs.Common.{◌≡◌, ℕ, ◌+◌, ◌<◌, List, [], ◌∷◌, ◌++◌, take, drop, length, get_or, ap, sym, ◌∙◌, add-one}
use Rattle.std.proofs.Math.Seq.{take-suc}
use Rattle.action_eval.specs.Answers.{Hit}
use Rattle.report.specs.ReportText.{ended, text_of}
use Rattle.report.proofs.Written.{goes_on, next_of}
use Rattle.report.specs.explained.Explained.{hit_line, hit_lines}

-- the element at i, and those after it
element_of : {A : Type 0} (xs : List A) (i : ℕ) (x : A) → i < length xs → x ≡ get_or xs i x → drop i xs ≡ x ∷ drop (i + 1) xs
element_of xs i x h is = next_of xs i x h ∙ ap (λ y. y ∷ drop (i + 1) xs) (sym is)

taken : {A : Type 0} (xs : List A) (i : ℕ) (x : A) → i < length xs → x ≡ get_or xs i x → take (i + 1) xs ≡ take i xs ++ x ∷ []
taken xs i x h is = ap (λ k. take k xs) (add-one i) ∙ take-suc xs i x h ∙ ap (λ y. take i xs ++ y ∷ []) (sym is)

-- the line of a hit is written
pub hit_on : (names : List (List ℕ)) (old new whole : List ℕ) (n : ℕ) (hits : List Hit) (h : Hit) → n < length hits → h ≡ get_or hits n h → (before : List Hit)
    → before ≡ take n hits → new ≡ old ++ ended (hit_line names before h)
    → old ++ text_of (hit_lines names (take n hits) (drop n hits)) ≡ whole → new ++ text_of (hit_lines names (take (n + 1) hits) (drop (n + 1) hits)) ≡ whole
hit_on names old new whole n hits h lt is before before_is added so_far =
    let rest = drop (n + 1) hits in
    let all : old ++ text_of (hit_lines names (take n hits) (h ∷ rest)) ≡ whole =
    ap (λ (hs : List Hit). old ++ text_of (hit_lines names (take n hits) hs)) (sym (element_of hits n h lt is)) ∙ so_far in
    ap (λ (b : List Hit). new ++ text_of (hit_lines names b rest)) (taken hits n h lt is)
    ∙ goes_on old new (ended (hit_line names (take n hits) h)) (text_of (hit_lines names (take n hits ++ h ∷ []) rest)) whole all
    (added ∙ ap (λ (b : List Hit). old ++ ended (hit_line names b h)) before_is)
