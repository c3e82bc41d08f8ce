use Rattle.std.proofs.Common.{◌≡◌, List, refl, ap, ◌∙◌}
use Rattle.std.specs.String.{string_bytes}
use Rattle.std.proofs.lemmas.Result.{on_ok_weaker}
use Rattle.scenario_values.specs.Scenario.{Entries}
use Rattle.xml_text.specs.Xml.{escaped}
use Rattle.report.specs.Reports.{FindingFacts, ReportFacts}
use Rattle.report.specs.ReportText.{scenario_text}
use Rattle.report.specs.junit_form.Junit.{found_at}
use Rattle.report.proofs.JunitFormLemmas.OneByOne.{case_done}
use Rattle.report.proofs.junit_form.cases.write_case.Goals as goal

pub returns : goal.returns
returns g c =
    let report : ReportFacts = c.args.report.now in
    let n = c.args.judged.now.number in
    let v = c.args.judged.now.verdict in
    let scenario : string_bytes c.in_ok-scenario-2.scenario ≡ escaped (scenario_text c.args.judged.now.plan) =
    c.in_ok-scenario-2.ensures ∙ ap (λ (s : Entries). escaped (scenario_text s)) c.in_ok-scenario.ensures in
    let findings : c.deref.result.now ≡ report.findings = c.deref.ensures.value ∙ ap (λ (r : ReportFacts). r.findings) c.report.view_is in
    on_ok_weaker c.write_result.result
    (λ ends. case_done (g.N.Names.code_text c.args.names.now) report n v c.args.judged.now.plan
    (string_bytes c.args.out.now) c.in_ok-write_head.ensures ends (ap (λ (r : ReportFacts). r.label) c.report.view_is)
    (c.as_str.ensures.value ∙ scenario) (c.as_str-2.ensures.value ∙ scenario)
    refl
    (c.found_at.ensures ∙ ap (λ (fs : List FindingFacts). found_at fs n) findings))
    c.write_result.ensures
