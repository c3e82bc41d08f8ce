-- The words and lines of a report. A target gives the names of its points and codes.
use Rattle.std.specs.Prelude.{ℕ, zero, suc, List, [], ◌∷◌, ◌++◌, length, map, zip, codes, flat_map, Option, None, Some}
use Rattle.std.specs.List.{enumerate_from}
use Rattle.std.specs.Fmt.{decimal}
use Rattle.scenario_values.specs.Scenario.{Entries}
use Rattle.scenario_values.specs.Printed.{printed}
use Rattle.target_trait.specs.declared.judgement.Verdict.{Verdict}
use Rattle.target_trait.specs.declared.judgement.Verdict.TheVariants as verdict
use Rattle.report.specs.Reports.{FindingFacts, CauseFacts, GrowthFacts, ReportFacts}

-- `pass`, `unresolved`, or `fail` and the name of the code.
abbrev pub verdict_text : (ℕ → List ℕ) → Verdict → List ℕ
verdict_text code_name verdict.Pass = codes "pass"
verdict_text code_name (verdict.Fail code) = codes "fail " ++ code_name code
verdict_text code_name verdict.Unresolved = codes "unresolved"

-- The printed form of a scenario, or `none` for a scenario without entries.
abbrev pub scenario_text : Entries → List ℕ
scenario_text [] = codes "none"
scenario_text (entry ∷ entries) = printed (entry ∷ entries)

-- The target's label, the seed, and the verdict without faults.
abbrev pub head_lines : (ℕ → List ℕ) → ReportFacts → List (List ℕ)
head_lines code_name report =
    (codes "target " ++ report.label) ∷ (codes "seed " ++ decimal report.seed) ∷ (codes "clean " ++ verdict_text code_name report.clean) ∷ []

-- A word, a point, and how many hits of it there are.
abbrev pub point_line : List ℕ → List ℕ × ℕ → List ℕ
point_line word hits = word ++ codes " " ++ hits.0 ++ codes " " ++ decimal hits.1

-- A line for each point, in the order of the catalogue.
abbrev pub point_lines : List ℕ → List (List ℕ) → List ℕ → List (List ℕ)
point_lines word names counts = map (point_line word) (zip names counts)

-- A level, and how many plans it has.
abbrev pub level_line : ℕ × ℕ → List ℕ
level_line level = codes "level " ++ decimal level.0 ++ codes " " ++ decimal level.1

-- A word and a count, if the count isn't 0.
abbrev pub nonzero_lines : List ℕ → ℕ → List (List ℕ)
nonzero_lines word zero = []
nonzero_lines word (suc n) = (word ++ codes " " ++ decimal (suc n)) ∷ []

-- The lines of a campaign with a depth: the depth, the levels from 0 on, how many plans have a sticky last fault, how many lie beyond, how many have
-- unknown hits, and the most hits of each point.
abbrev pub growth_lines : List (List ℕ) → Option GrowthFacts → List (List ℕ)
growth_lines names None = []
growth_lines names (Some growth) =
    (codes "depth " ++ decimal growth.depth) ∷ []
    ++ map level_line (enumerate_from 0 growth.levels)
    ++ (codes "onward " ++ decimal growth.onward) ∷ (codes "beyond " ++ decimal growth.beyond) ∷ []
    ++ nonzero_lines (codes "unseen") growth.unseen
    ++ point_lines (codes "reached") names growth.reached

-- How many plans there are.
abbrev pub count_line : List Verdict → List ℕ
count_line verdicts = codes "plans " ++ decimal (length verdicts)

-- A plan's number and verdict.
abbrev pub verdict_line : (ℕ → List ℕ) → ℕ × Verdict → List ℕ
verdict_line code_name plan = codes "verdict " ++ decimal plan.0 ++ codes " " ++ verdict_text code_name plan.1

-- A line for each plan. The plans are numbered from n on.
abbrev pub verdict_lines : (ℕ → List ℕ) → ℕ → List Verdict → List (List ℕ)
verdict_lines code_name n verdicts = map (verdict_line code_name) (enumerate_from n verdicts)

-- The plan's number and the name of its code, its scenario, the reduced scenario, and how many tests the reduction took.
abbrev pub finding_lines : (ℕ → List ℕ) → FindingFacts → List (List ℕ)
finding_lines code_name finding =
    (codes "first " ++ decimal finding.number ++ codes " " ++ code_name finding.code)
    ∷ (codes "scenario " ++ scenario_text finding.scenario)
    ∷ (codes "reduced " ++ scenario_text finding.reduced)
    ∷ (codes "tests " ++ decimal finding.tests)
    ∷ []

-- If nothing was found, `first none` alone; otherwise the lines of each finding, in order.
abbrev pub findings_lines : (ℕ → List ℕ) → List FindingFacts → List (List ℕ)
findings_lines code_name [] = codes "first none" ∷ []
findings_lines code_name (finding ∷ findings) = flat_map (finding_lines code_name) (finding ∷ findings)

-- The plan's number, the name of its code, and its scenario.
abbrev pub cause_line : (ℕ → List ℕ) → CauseFacts → List ℕ
cause_line code_name cause =
    codes "cause " ++ decimal cause.number ++ codes " " ++ code_name cause.code ++ codes " " ++ scenario_text cause.scenario

-- The lines of a campaign with a depth: how many causes there are, and then a line for each, in order.
abbrev pub causes_lines : (ℕ → List ℕ) → Option GrowthFacts → List (List ℕ)
causes_lines code_name None = []
causes_lines code_name (Some growth) = (codes "causes " ++ decimal (length growth.causes)) ∷ map (cause_line code_name) growth.causes

-- All lines of a report, by the names of the points and codes.
abbrev pub report_lines : List (List ℕ) → (ℕ → List ℕ) → ReportFacts → List (List ℕ)
report_lines names code_name report =
    head_lines code_name report
    ++ point_lines (codes "census") names report.census
    ++ growth_lines names report.growth
    ++ count_line report.verdicts ∷ []
    ++ verdict_lines code_name 0 report.verdicts
    ++ nonzero_lines (codes "unmet") report.unmet
    ++ findings_lines code_name report.findings
    ++ causes_lines code_name report.growth

-- A line with a line feed at its end.
abbrev pub ended : List ℕ → List ℕ
ended line = line ++ 10 ∷ []

-- Lines, each with a line feed at its end.
abbrev pub text_of : List (List ℕ) → List ℕ
text_of lines = flat_map ended lines
