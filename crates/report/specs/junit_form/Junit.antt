-- A report as JUnit's XML, for programs that show tests: a suite with a case for each plan. A target gives the names of its codes.
use Rattle.std.specs.Prelude.{ℕ, ◌+◌, ◌==◌, List, [], ◌∷◌, ◌++◌, length, codes, count_by, Option, None, Some}
use Rattle.std.specs.Fmt.{decimal}
use Rattle.std.specs.List.{find}
use Rattle.scenario_values.specs.Scenario.{Entries}
use Rattle.target_trait.specs.declared.judgement.Verdict.{Verdict}
use Rattle.target_trait.specs.declared.judgement.Verdict.TheVariants as verdict
use Rattle.xml_text.specs.Xml.{escaped}
use Rattle.report.specs.Reports.{FindingFacts, ReportFacts}
use Rattle.report.specs.ReportText.{scenario_text}
use Rattle.target_trait.specs.Verdicts.{is_fail, is_unresolved}

-- ---- a case

-- The head of a plan's case, up to the end of its attributes. Its name is the plan's number and its scenario, escaped for XML.
unfoldable pub case_head : List ℕ → ℕ → List ℕ → List ℕ
case_head label n scenario =
    codes "<testcase classname=\"" ++ escaped label ++ codes "\" name=\"plan " ++ decimal n ++ codes " " ++ scenario ++ codes "\""

-- The reduced scenario of a first failure, and how many tests the reduction took.
unfoldable pub reduced_text : Option FindingFacts → List ℕ
reduced_text None = []
reduced_text (Some finding) = codes "reduced " ++ escaped (scenario_text finding.reduced) ++ codes "\ntests " ++ decimal finding.tests ++ codes "\n"

-- The head of a failure, with the name of its code.
unfoldable pub failure_head : List ℕ → List ℕ
failure_head code = codes "<failure type=\"" ++ escaped code ++ codes "\" message=\"fail " ++ escaped code ++ codes "\">"

-- A failure: its scenario and, if it is the first one of a code, its reduced scenario.
unfoldable pub failure_text : List ℕ → List ℕ → Option FindingFacts → List ℕ
failure_text code scenario found = failure_head code ++ codes "scenario " ++ scenario ++ codes "\n" ++ reduced_text found ++ codes "</failure>"

-- What a case comes to, up to the end of its element. An unresolved plan counts as skipped.
abbrev pub result_text : (ℕ → List ℕ) → Verdict → List ℕ → Option FindingFacts → List ℕ
result_text code_name verdict.Pass scenario found = codes "/>\n"
result_text code_name (verdict.Fail code) scenario found = codes ">" ++ failure_text (code_name code) scenario found ++ codes "</testcase>\n"
result_text code_name verdict.Unresolved scenario found = codes "><skipped message=\"unresolved\"/></testcase>\n"

-- The finding with this plan's number.
abbrev pub found_at : List FindingFacts → ℕ → Option FindingFacts
found_at findings n = find (λ finding. finding.number == n) findings

-- A plan's case.
abbrev pub case_text : (ℕ → List ℕ) → ReportFacts → ℕ → Verdict → Entries → List ℕ
case_text code_name report n v plan =
    let scenario = escaped (scenario_text plan) in
    case_head report.label n scenario ++ result_text code_name v scenario (found_at report.findings n)

-- The cases of plans with these verdicts, which are numbered from n on.
abbrev pub cases_text : (ℕ → List ℕ) → ReportFacts → ℕ → List Verdict → List Entries → List ℕ
cases_text code_name report n [] plans = []
cases_text code_name report n (v ∷ vs) [] = []
cases_text code_name report n (v ∷ vs) (plan ∷ plans) = case_text code_name report n v plan ++ cases_text code_name report (n + 1) vs plans

-- ---- the document

-- The head of the suite, up to its name.
unfoldable pub suite_head : List ℕ → List ℕ
suite_head label = codes "<?xml version=\"1.0\" encoding=\"UTF-8\"?>\n<testsuites>\n<testsuite name=\"" ++ escaped label ++ codes "\""

-- How many plans there are, how many fail, and how many are unresolved.
unfoldable pub suite_counts : ℕ → ℕ → ℕ → List ℕ
suite_counts tests failures skipped =
    codes " tests=\"" ++ decimal tests ++ codes "\" failures=\"" ++ decimal failures
    ++ codes "\" errors=\"0\" skipped=\"" ++ decimal skipped ++ codes "\">\n"

abbrev pub suite_end : List ℕ
suite_end = codes "</testsuite>\n</testsuites>\n"

-- The whole document of a report over these plans, by the names of the codes.
abbrev pub document_text : (ℕ → List ℕ) → ReportFacts → List Entries → List ℕ
document_text code_name report plans =
    suite_head report.label
    ++ suite_counts (length report.verdicts) (count_by is_fail report.verdicts) (count_by is_unresolved report.verdicts)
    ++ cases_text code_name report 0 report.verdicts plans
    ++ suite_end
