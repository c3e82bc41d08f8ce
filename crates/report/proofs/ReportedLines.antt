-- Lines that are written one list after the other.
use Rattle.std.proofs.Common.{◌≡◌, ℕ, ◌+◌, ◌<◌, List, [], ◌∷◌, ◌++◌, drop, length, get_or, ap, sym, ◌∙◌, append_assoc}
use Rattle.std.specs.List.{flat_map}
use Rattle.std.specs.Prelude.{Result, Ok, Err, OnOk, is_ok, if◌then◌else◌}
use Rattle.std.proofs.lemmas.List.Concat.{flat_map-append}
use Rattle.scenario_values.specs.Scenario.{Entries}
use Rattle.target_trait.specs.declared.judgement.Verdict.{Verdict}
use Rattle.report.specs.ReportText.{ended, text_of}
use Rattle.report.specs.BriefText.{reported_line_of, reported_lines}
use Rattle.report.proofs.Written.{goes_on, next_of}

-- lines are written, and the rest is left
pub lines_on : (old new whole : List ℕ) (lines rest : List (List ℕ)) → new ≡ old ++ text_of lines → old ++ text_of (lines ++ rest) ≡ whole
    → new ++ text_of rest ≡ whole
lines_on old new whole lines rest added h =
    goes_on old new (text_of lines) (text_of rest) whole (ap (λ (t : List ℕ). old ++ t) (sym (flat_map-append ended lines rest)) ∙ h) added

-- the line of a verdict is written, or none
pub told_next : (code_name : ℕ → List ℕ) (old new whole : List ℕ) (n : ℕ) (v : Verdict) (plan : Entries) (verdicts vs : List Verdict) (plans ps : List Entries)
    → verdicts ≡ v ∷ vs → plans ≡ plan ∷ ps → new ≡ old ++ text_of (reported_line_of code_name n v plan)
    → old ++ text_of (reported_lines code_name n verdicts plans) ≡ whole → new ++ text_of (reported_lines code_name (n + 1) vs ps) ≡ whole
told_next code_name old new whole n v plan verdicts vs plans ps vs_are ps_are added h =
    lines_on old new whole (reported_line_of code_name n v plan) (reported_lines code_name (n + 1) vs ps) added
    (ap (λ (l : List Entries). old ++ text_of (reported_lines code_name n (v ∷ vs) l)) (sym ps_are)
    ∙ ap (λ (l : List Verdict). old ++ text_of (reported_lines code_name n l plans)) (sym vs_are) ∙ h)

-- what is written of the next element
pub element_on : {A : Type 0} (f : A → List ℕ) (old new whole : List ℕ) (i : ℕ) (xs : List A) (x : A) → i < length xs → x ≡ get_or xs i x
    → new ≡ old ++ f x
    → old ++ flat_map f (drop i xs) ≡ whole → new ++ flat_map f (drop (i + 1) xs) ≡ whole
element_on {A} f old new whole i xs x lt is added h =
    goes_on old new (f x) (flat_map f (drop (i + 1) xs)) whole
    (ap (λ (l : List A). old ++ flat_map f l) (sym (next_of xs i x lt ∙ ap (λ (y : A). y ∷ drop (i + 1) xs) (sym is))) ∙ h) added

-- What a call that may be refused leaves if it isn't refused.
pub on_ok_if : {T E : Type 0} (r : Result T E) (x a b : List ℕ) → x ≡ (if is_ok r then a else b) → OnOk r (x ≡ a)
on_ok_if (Ok y) x a b e = e
on_ok_if (Err y) x a b e = tt

-- five pieces and a line feed
pub five_pieces : (o a b c d e : List ℕ) → ((o ++ (a ++ (b ++ (c ++ d)))) ++ e) ++ 10 ∷ [] ≡ o ++ ((a ++ b ++ c ++ d ++ e) ++ 10 ∷ [])
five_pieces o a b c d e = simp append_assoc

-- the lists of lines of a report, from the last on
pub joined_whole : (head census growth each unmet found causes : List (List ℕ)) (plans : List ℕ)
    → (head ++ census ++ growth ++ plans ∷ []) ++ (each ++ (unmet ++ found ++ causes)) ≡ head ++ census ++ growth ++ plans ∷ [] ++ each ++ unmet ++ found ++ causes
joined_whole head census growth each unmet found causes plans = sym (simp append_assoc)

-- those of a brief one
pub joined_lines : (head census growth told unmet found causes : List (List ℕ)) (plans counts : List ℕ)
    → (head ++ census ++ growth ++ plans ∷ []) ++ (counts ∷ (told ++ (unmet ++ found ++ causes)))
    ≡ head ++ census ++ growth ++ plans ∷ counts ∷ [] ++ told ++ unmet ++ found ++ causes
joined_lines head census growth told unmet found causes plans counts = sym (simp append_assoc)
