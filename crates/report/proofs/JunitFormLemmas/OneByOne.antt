-- Cases that a loop writes.
use Rattle.std.proofs.Common.{◌≡◌, ℕ, ◌+◌, List, ◌∷◌, ◌++◌, Option, ap, sym, ◌∙◌, append_assoc}
use Rattle.scenario_values.specs.Scenario.{Entries}
use Rattle.target_trait.specs.declared.judgement.Verdict.{Verdict}
use Rattle.xml_text.specs.Xml.{escaped}
use Rattle.report.specs.Reports.{FindingFacts, ReportFacts}
use Rattle.report.specs.ReportText.{scenario_text}
use Rattle.report.proofs.Written.{goes_on}
use Rattle.report.specs.junit_form.Junit.{case_head, result_text, found_at, case_text, cases_text}

-- the next case is written
pub case_next : (code_name : ℕ → List ℕ) (report : ReportFacts) (old new whole : List ℕ) (n : ℕ) (v : Verdict) (plan : Entries) (verdicts vs : List Verdict) (plans ps : List Entries)
    → verdicts ≡ v ∷ vs → plans ≡ plan ∷ ps → new ≡ old ++ case_text code_name report n v plan
    → old ++ cases_text code_name report n verdicts plans ≡ whole → new ++ cases_text code_name report (n + 1) vs ps ≡ whole
case_next code_name report old new whole n v plan verdicts vs plans ps vs_are ps_are added h =
    goes_on old new (case_text code_name report n v plan) (cases_text code_name report (n + 1) vs ps) whole
    (ap (λ (l : List Entries). old ++ cases_text code_name report n (v ∷ vs) l) (sym ps_are)
    ∙ ap (λ (l : List Verdict). old ++ cases_text code_name report n l plans) (sym vs_are) ∙ h) added

-- the head of a case and what comes of it are written
pub case_done : (code_name : ℕ → List ℕ) (report : ReportFacts) (n : ℕ) (v : Verdict) (plan : Entries) (old : List ℕ)
    {headed new label first second : List ℕ} {w : Verdict} {found : Option FindingFacts}
    → headed ≡ old ++ case_head label n first → new ≡ headed ++ result_text code_name w second found
    → label ≡ report.label → first ≡ escaped (scenario_text plan) → second ≡ escaped (scenario_text plan) → w ≡ v → found ≡ found_at report.findings n
    → new ≡ old ++ case_text code_name report n v plan
case_done code_name report n v plan old {headed} {new} {label} {first} {second} {w} {found} heads ends label_is first_is second_is verdict_is found_is =
    let scenario : List ℕ = escaped (scenario_text plan) in
    ends ∙ ap (λ (t : List ℕ). t ++ result_text code_name w second found) heads
    ∙ append_assoc old (case_head label n first) (result_text code_name w second found)
    ∙ ap (λ (l : List ℕ). old ++ (case_head l n first ++ result_text code_name w second found)) label_is
    ∙ ap (λ (s : List ℕ). old ++ (case_head report.label n s ++ result_text code_name w second found)) first_is
    ∙ ap (λ (s : List ℕ). old ++ (case_head report.label n scenario ++ result_text code_name w s found)) second_is
    ∙ ap (λ (u : Verdict). old ++ (case_head report.label n scenario ++ result_text code_name u scenario found)) verdict_is
    ∙ ap (λ (f : Option FindingFacts). old ++ (case_head report.label n scenario ++ result_text code_name v scenario f)) found_is

-- three pieces, and five
pub three_pieces : (o a b c : List ℕ) → ((o ++ a) ++ b) ++ c ≡ o ++ (a ++ b ++ c)
three_pieces o a b c = simp append_assoc

pub five_pieces : (o a b c d e : List ℕ) → ((((o ++ a) ++ b) ++ c) ++ d) ++ e ≡ o ++ (a ++ b ++ c ++ d ++ e)
five_pieces o a b c d e = simp append_assoc
