-- The lines of a brief report: one line of counts in place of the verdicts that pass, and each other verdict with its scenario beside it.
use Rattle.std.specs.Prelude.{ℕ, ◌+◌, ◌==◌, Bool, false, List, [], ◌∷◌, ◌++◌, codes, flat_map, count_by}
use Rattle.std.specs.Fmt.{decimal}
use Rattle.scenario_values.specs.Scenario.{Entries}
use Rattle.target_trait.specs.declared.judgement.Verdict.{Verdict}
use Rattle.target_trait.specs.declared.judgement.Verdict.TheVariants as verdict
use Rattle.target_trait.specs.Verdicts.{is_pass, is_unresolved}
use Rattle.report.specs.Reports.{FindingFacts, ReportFacts}
use Rattle.report.specs.ReportText.{verdict_text, scenario_text, head_lines, point_lines, growth_lines, count_line, nonzero_lines}
use Rattle.report.specs.ReportText.{findings_lines, causes_lines}

-- Whether a verdict is a failure with this code.
abbrev pub is_fail_with : ℕ → Verdict → Bool
is_fail_with code verdict.Pass = false
is_fail_with code (verdict.Fail other) = other == code
is_fail_with code verdict.Unresolved = false

-- The name of a code, and how many verdicts fail with it.
abbrev pub code_count : (ℕ → List ℕ) → List Verdict → FindingFacts → List ℕ
code_count code_name verdicts finding =
    codes " " ++ code_name finding.code ++ codes " " ++ decimal (count_by (is_fail_with finding.code) verdicts)

-- How many verdicts pass, how many are unresolved, and how many fail with each code, in the order of the first failures.
abbrev pub counts_line : (ℕ → List ℕ) → List Verdict → List FindingFacts → List ℕ
counts_line code_name verdicts findings =
    codes "counts pass " ++ decimal (count_by is_pass verdicts)
    ++ codes " unresolved " ++ decimal (count_by is_unresolved verdicts)
    ++ flat_map (code_count code_name verdicts) findings

-- The plan's number, verdict and scenario.
abbrev pub reported_line : (ℕ → List ℕ) → ℕ → Verdict → Entries → List ℕ
reported_line code_name number verdict plan =
    codes "verdict " ++ decimal number ++ codes " " ++ verdict_text code_name verdict ++ codes " " ++ scenario_text plan

-- A verdict that passes has no line.
abbrev pub reported_line_of : (ℕ → List ℕ) → ℕ → Verdict → Entries → List (List ℕ)
reported_line_of code_name n verdict.Pass plan = []
reported_line_of code_name n (verdict.Fail code) plan = reported_line code_name n (verdict.Fail code) plan ∷ []
reported_line_of code_name n verdict.Unresolved plan = reported_line code_name n verdict.Unresolved plan ∷ []

-- The lines of plans with these verdicts, which are numbered from n on.
abbrev pub reported_lines : (ℕ → List ℕ) → ℕ → List Verdict → List Entries → List (List ℕ)
reported_lines code_name n [] plans = []
reported_lines code_name n (v ∷ vs) [] = []
reported_lines code_name n (v ∷ vs) (plan ∷ plans) = reported_line_of code_name n v plan ++ reported_lines code_name (n + 1) vs plans

-- All lines of a report over these plans, by the names of the points and codes.
abbrev pub brief_lines : List (List ℕ) → (ℕ → List ℕ) → ReportFacts → List Entries → List (List ℕ)
brief_lines names code_name report plans =
    head_lines code_name report
    ++ point_lines (codes "census") names report.census
    ++ growth_lines names report.growth
    ++ count_line report.verdicts ∷ counts_line code_name report.verdicts report.findings ∷ []
    ++ reported_lines code_name 0 report.verdicts plans
    ++ nonzero_lines (codes "unmet") report.unmet
    ++ findings_lines code_name report.findings
    ++ causes_lines code_name report.growth
