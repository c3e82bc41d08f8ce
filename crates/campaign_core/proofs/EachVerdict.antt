use Rattle.std.proofs.Common.{◌≡◌, ◌∙◌, List, ap, length, sym}
use Rattle.scenario_values.specs.Scenario.{Entries}
use Rattle.result_book.proofs.SlotLemmas.{length_verdicts}
use Rattle.report.specs.Reports.{ReportFacts}
use Rattle.campaign_core.specs.Headline.{Campaign, plans, report, say}

-- there is a verdict for each plan
pub verdicts_each : (k : Campaign) (r : ReportFacts) (ps : List Entries) → r ≡ report k → ps ≡ plans k → length r.verdicts ≡ length ps
verdicts_each k r ps is all =
    ap (λ (x : ReportFacts). length x.verdicts) is ∙ length_verdicts (say k) 0 (plans k) ∙ sym (ap (λ (x : List Entries). length x) all)
