-- What is noted of a strict report, by its parts.
use Rattle.std.proofs.Common.{◌≡◌, ◌++◌, ◌∙◌, ◌∷◌, ◌+◌, ◌<◌, ℕ, suc, Bool, List, [], append_assoc, arith, drop, length, slice_index_or, sym, ap}
use Rattle.std.proofs.Math.Seq.{drop-cons}
use Rattle.report.specs.ReportText.{ended, text_of}
use Rattle.campaign_core.specs.Headline.{Campaign}
use Rattle.campaign_core.specs.Ran.{unreached}
use Rattle.campaign_main.specs.Notes.{doubt_notes, doubts_of, strict_notes, unreached_line, unreached_lines}
use Rattle.campaign_main.specs.QuestionNotes.{unhit_lines, unmet_notes, unseen_notes}
use Rattle.campaign_main.specs.declared.notes.Doubts.{Doubts}

-- equal parts make equal doubts
pub same-doubts : (d e : Doubts) → d.clean ≡ e.clean → d.unresolved ≡ e.unresolved → d.plans ≡ e.plans → d.unhit ≡ e.unhit → d.unstormed ≡ e.unstormed → d ≡ e
same-doubts d e clean unresolved plans unhit unstormed =
    let made : Bool → ℕ → ℕ → Bool → Bool → Doubts = λ a b p h s. record { clean = a; unresolved = b; plans = p; unhit = h; unstormed = s } in
    ap (λ x. made x d.unresolved d.plans d.unhit d.unstormed) clean
    ∙ ap (λ x. made e.clean x d.plans d.unhit d.unstormed) unresolved
    ∙ ap (λ x. made e.clean e.unresolved x d.unhit d.unstormed) plans
    ∙ ap (λ x. made e.clean e.unresolved e.plans x d.unstormed) unhit
    ∙ ap (λ x. made e.clean e.unresolved e.plans e.unhit x) unstormed

-- the lines, where what stands before them is nothing
pub strict-is : (c : Campaign) (d : Doubts) (names : List (List ℕ)) (places empty one two : List ℕ) → d ≡ doubts_of c → names ≡ c.points
    → places ≡ unreached c
    → empty ≡ [] → one ≡ empty ++ doubt_notes d → two ≡ one ++ text_of (unreached_lines names places) → two ≡ strict_notes c
strict-is c d names places empty one two same points left none first second =
    let start : one ≡ doubt_notes (doubts_of c) = first ∙ ap (λ (x : List ℕ). x ++ doubt_notes d) none ∙ ap doubt_notes same in
    let rest : unreached_lines names places ≡ unreached_lines c.points (unreached c) =
    ap (λ n. unreached_lines n places) points ∙ ap (unreached_lines c.points) left in
    second ∙ ap (λ (x : List ℕ). x ++ text_of (unreached_lines names places)) start ∙ ap (λ l. doubt_notes (doubts_of c) ++ text_of l) rest

-- doubts, a count of plans and lines, one after another
three-notes : (counted : ℕ → ℕ → List ℕ) (d e : Doubts) (n m : ℕ) (lines rest empty one two three : List ℕ) → d ≡ e → n ≡ m → lines ≡ rest → empty ≡ []
    → one ≡ empty ++ doubt_notes d → two ≡ one ++ counted n d.plans → three ≡ two ++ lines → three ≡ doubt_notes e ++ (counted m e.plans ++ rest)
three-notes counted d e n m lines rest empty one two three same count left none first second third =
    let start : one ≡ doubt_notes e = first ∙ ap (λ (x : List ℕ). x ++ doubt_notes d) none ∙ ap doubt_notes same in
    let middle : counted n d.plans ≡ counted m e.plans = ap (λ k. counted k d.plans) count ∙ ap (λ (x : Doubts). counted m x.plans) same in
    third ∙ ap (λ (x : List ℕ). x ++ lines) (second ∙ ap (λ (x : List ℕ). x ++ counted n d.plans) start)
    ∙ ap (λ (l : List ℕ). (doubt_notes e ++ l) ++ lines) middle ∙ ap (λ (l : List ℕ). (doubt_notes e ++ counted m e.plans) ++ l) left
    ∙ append_assoc (doubt_notes e) (counted m e.plans) rest

-- the same of a report by answers
pub answered-is : (d e : Doubts) (names points : List (List ℕ)) (hits counts : List ℕ) (n unmet : ℕ) (empty one two three : List ℕ) → d ≡ e → names ≡ points → hits ≡ counts
    → n ≡ unmet → empty ≡ [] → one ≡ empty ++ doubt_notes d → two ≡ one ++ unmet_notes n d.plans → three ≡ two ++ text_of (unhit_lines names hits)
    → three ≡ doubt_notes e ++ (unmet_notes unmet e.plans ++ text_of (unhit_lines points counts))
answered-is d e names points hits counts n unmet empty one two three same named counted count none first second third =
    let rest : text_of (unhit_lines names hits) ≡ text_of (unhit_lines points counts) = ap (λ p. text_of (unhit_lines p hits)) named ∙ ap (λ h. text_of (unhit_lines points h)) counted in
    three-notes unmet_notes d e n unmet _ _ empty one two three same count rest none first second third

-- the same of a report with a depth
pub runs-is : (d e : Doubts) (names points : List (List ℕ)) (places unreached : List ℕ) (n unseen : ℕ) (empty one two three : List ℕ) → d ≡ e → names ≡ points
    → places ≡ unreached → n ≡ unseen → empty ≡ [] → one ≡ empty ++ doubt_notes d → two ≡ one ++ unseen_notes n d.plans
    → three ≡ two ++ text_of (unreached_lines names places) → three ≡ doubt_notes e ++ (unseen_notes unseen e.plans ++ text_of (unreached_lines points unreached))
runs-is d e names points places unreached n unseen empty one two three same named left count none first second third =
    let rest : text_of (unreached_lines names places) ≡ text_of (unreached_lines points unreached) = ap (λ p. text_of (unreached_lines p places)) named ∙ ap (λ l. text_of (unreached_lines points l)) left in
    three-notes unseen_notes d e n unseen _ _ empty one two three same count rest none first second third

-- one more of the lines for points that no run asks
pub unreached-step : (points : List (List ℕ)) (left : List ℕ) (k d : ℕ) (out new whole : List ℕ) → k < length left
    → new ≡ out ++ ended (unreached_line (slice_index_or points (slice_index_or left k d) []))
    → out ++ text_of (unreached_lines points (drop k left)) ≡ whole → new ++ text_of (unreached_lines points (drop (k + 1) left)) ≡ whole
unreached-step points left k d out new whole less added h =
    let one : k + 1 ≡ suc k = omega arith in
    let line = ended (unreached_line (slice_index_or points (slice_index_or left k d) [])) in
    let more : List ℕ → List ℕ = λ l. text_of (unreached_lines points l) in
    let begins : drop k left ≡ slice_index_or left k d ∷ drop (k + 1) left =
    drop-cons left k d less ∙ ap (λ m. slice_index_or left k d ∷ drop m left) (sym one) in
    ap (λ (x : List ℕ). x ++ more (drop (k + 1) left)) added ∙ append_assoc out line (more (drop (k + 1) left))
    ∙ ap (λ (l : List ℕ). out ++ more l) (sym begins) ∙ h
