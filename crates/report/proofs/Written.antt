-- Lines that a loop writes.
use Rattle.std.proofs.Common.{◌≡◌, ℕ, ◌+◌, ◌<◌, List, ◌∷◌, ◌++◌, drop, length, get_or, map, ap, sym, ◌∙◌, append_assoc, add-one, drop-cons}
use Rattle.std.specs.List.{flat_map}
use Rattle.std.proofs.lemmas.List.Concat.{flat_map-append}
use Rattle.report.specs.Reports.{FindingFacts}
use Rattle.report.specs.ReportText.{point_line, point_lines, finding_lines, ended, text_of}

pub goes_on : {A : Type 0} (old new here rest whole : List A) → old ++ (here ++ rest) ≡ whole → new ≡ old ++ here → new ++ rest ≡ whole
goes_on old new here rest whole h e = ap (λ r. r ++ rest) e ∙ append_assoc old here rest ∙ h

pub next_of : {A : Type 0} (xs : List A) (i : ℕ) (d : A) → i < length xs → drop i xs ≡ get_or xs i d ∷ drop (i + 1) xs
next_of xs i d h = drop-cons xs i d h ∙ ap (λ k. get_or xs i d ∷ drop k xs) (sym (add-one i))

-- the line of the next point is written
pub point_next : (word old new name : List ℕ) (n : ℕ) (names rest : List (List ℕ)) (counts left whole : List ℕ) → names ≡ name ∷ rest → counts ≡ n ∷ left
    → new ≡ old ++ ended (point_line word (name, n)) → old ++ text_of (point_lines word names counts) ≡ whole → new ++ text_of (point_lines word rest left) ≡ whole
point_next word old new name n names rest counts left whole a b added h =
    goes_on old new (ended (point_line word (name, n))) (text_of (point_lines word rest left)) whole
    (ap (λ (l : List ℕ). old ++ text_of (point_lines word (name ∷ rest) l)) (sym b) ∙ ap (λ (l : List (List ℕ)). old ++ text_of (point_lines word l counts)) (sym a)
    ∙ h) added

-- the line of the next element is written
pub line_next : {A : Type 0} (f : A → List ℕ) (old new whole : List ℕ) (i : ℕ) (xs : List A) (x : A) → i < length xs → x ≡ get_or xs i x
    → new ≡ old ++ ended (f x)
    → old ++ text_of (map f (drop i xs)) ≡ whole → new ++ text_of (map f (drop (i + 1) xs)) ≡ whole
line_next {A} f old new whole i xs x lt is added h =
    goes_on old new (ended (f x)) (text_of (map f (drop (i + 1) xs))) whole
    (ap (λ (l : List A). old ++ text_of (map f l)) (sym (next_of xs i x lt ∙ ap (λ (y : A). y ∷ drop (i + 1) xs) (sym is))) ∙ h) added

pub finding_next : (code_name : ℕ → List ℕ) (old new whole : List ℕ) (i : ℕ) (fs : List FindingFacts) (f : FindingFacts) → i < length fs → f ≡ get_or fs i f
    → new ≡ old ++ text_of (finding_lines code_name f)
    → old ++ text_of (flat_map (finding_lines code_name) (drop i fs)) ≡ whole → new ++ text_of (flat_map (finding_lines code_name) (drop (i + 1) fs)) ≡ whole
finding_next code_name old new whole i fs f lt is added h =
    goes_on old new (text_of (finding_lines code_name f)) (text_of (flat_map (finding_lines code_name) (drop (i + 1) fs))) whole
    (ap (λ (t : List ℕ). old ++ t)
    (sym (ap (λ (l : List FindingFacts). text_of (flat_map (finding_lines code_name) l)) (next_of fs i f lt ∙ ap (λ (g : FindingFacts). g ∷ drop (i + 1) fs) (sym is))
    ∙ flat_map-append ended (finding_lines code_name f) (flat_map (finding_lines code_name) (drop (i + 1) fs)))) ∙ h) added
