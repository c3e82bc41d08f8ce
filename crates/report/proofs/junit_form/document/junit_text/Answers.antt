use Rattle.std.proofs.Common.{◌≡◌, List, ℕ, Vec, Global, ◌++◌, length, count_by, ap, ◌∙◌}
use Rattle.std.specs.String.{string_bytes}
use Rattle.report.specs.Reports.{ReportFacts}
use Rattle.target_trait.specs.Verdicts.{is_fail, is_unresolved}
use Rattle.report.specs.junit_form.Junit.{cases_text, suite_head, suite_counts, suite_end}
use Rattle.report.proofs.junit_form.document.junit_text.Goals as goal

pub returns : goal.returns
returns g c =
    let name = g.N.Names.code_text c.args.names.now in
    let report : ReportFacts = c.args.report.now in
    let i = c.report.inside in
    let counts : ReportFacts → List ℕ = λ r. suite_counts (length r.verdicts) (count_by is_fail r.verdicts) (count_by is_unresolved r.verdicts) in
    let head : ReportFacts → List ℕ = λ r. suite_head r.label ++ counts r in
    let vs = i.verdicts.now in
    let begun : string_bytes c.write_suite.new.out ≡ head report =
    c.in_ok-write_suite.ensures
    ∙ ap (λ (t : List ℕ). t ++ suite_head i.label.now ++ suite_counts (length vs) (count_by is_fail vs) (count_by is_unresolved vs)) c.new-out.ensures.bytes
    ∙ ap head c.report.view_is in
    ap (λ (v : Vec ℕ Global). v.items) c.into_bytes.ensures.value ∙ c.in_ok-push_str.ensures.bytes
    ∙ ap (λ (t : List ℕ). t ++ suite_end) (c.in_ok-write_cases.ensures ∙ ap (λ (t : List ℕ). t ++ cases_text name report 0 report.verdicts c.args.plans.now) begun)
