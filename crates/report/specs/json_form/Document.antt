-- A report as one JSON value, and its text. docs/MACHINES.md describes the members. A target gives the names of its points and codes.
use Rattle.std.specs.Prelude.{◌≡◌, ℕ, ◌+◌, List, [], ◌∷◌, ◌++◌, length, map, codes, count_by, Option, None, Some}
use Rattle.std.specs.Fmt.{decimal}
use Rattle.json.specs.Json.{Json, null, string, object, no_members, member, document}
use Rattle.json.specs.Layout.{pretty}
use Rattle.json.specs.Tree.{json_tokens}
use Rattle.scenario_values.specs.Scenario.{Entries}
use Rattle.target_trait.specs.declared.judgement.Verdict.{Verdict}
use Rattle.target_trait.specs.declared.judgement.Verdict.TheVariants as verdict
use Rattle.report.specs.Reports.{FindingFacts, CauseFacts, GrowthFacts, ReportFacts}
use Rattle.target_trait.specs.Verdicts.{is_pass, is_fail, is_unresolved}
use Rattle.report.specs.json_form.About.{NotesFacts, ShownFacts, about_value}
use Rattle.report.specs.json_form.Runs.{RunsFacts}
use Rattle.report.specs.json_form.Values.{whole, nonzero, list_of, scenario_value}

-- The number of the document's form. It changes if members change their names or their meaning.
abbrev pub form : ℕ
form = 1

-- ---- verdicts

abbrev pub verdict_word : Verdict → List ℕ
verdict_word verdict.Pass = codes "pass"
verdict_word (verdict.Fail code) = codes "fail"
verdict_word verdict.Unresolved = codes "unresolved"

-- The name of a failure's code; null if there is no failure.
abbrev pub code_of : (ℕ → List ℕ) → Verdict → Json
code_of code_name verdict.Pass = null
code_of code_name (verdict.Fail code) = string (code_name code)
code_of code_name verdict.Unresolved = null

abbrev pub clean_value : (ℕ → List ℕ) → Verdict → Json
clean_value code_name v = object (member (codes "verdict") (string (verdict_word v)) (member (codes "code") (code_of code_name v) no_members))

-- How many plans there are, and how many of them have each verdict.
abbrev pub counts_value : List Verdict → Json
counts_value verdicts =
    object (member (codes "plans") (whole (length verdicts))
    (member (codes "pass") (whole (count_by is_pass verdicts))
    (member (codes "fail") (whole (count_by is_fail verdicts))
    (member (codes "unresolved") (whole (count_by is_unresolved verdicts)) no_members))))

-- A plan's number, verdict, code and scenario.
abbrev pub plan_value : (ℕ → List ℕ) → ℕ → Verdict → Entries → Json
plan_value code_name n v plan =
    object (member (codes "number") (whole n)
    (member (codes "verdict") (string (verdict_word v))
    (member (codes "code") (code_of code_name v)
    (member (codes "scenario") (scenario_value plan) no_members))))

-- A plan that passes has no value.
abbrev pub reported_value : (ℕ → List ℕ) → ℕ → Verdict → Entries → List Json
reported_value code_name n verdict.Pass plan = []
reported_value code_name n (verdict.Fail code) plan = plan_value code_name n (verdict.Fail code) plan ∷ []
reported_value code_name n verdict.Unresolved plan = plan_value code_name n verdict.Unresolved plan ∷ []

-- The values of plans with these verdicts, which are numbered from n on.
abbrev pub reported_values : (ℕ → List ℕ) → ℕ → List Verdict → List Entries → List Json
reported_values code_name n [] plans = []
reported_values code_name n (v ∷ vs) [] = []
reported_values code_name n (v ∷ vs) (plan ∷ plans) = reported_value code_name n v plan ++ reported_values code_name (n + 1) vs plans

-- ---- points

-- A point's name, and how many hits of it there are.
abbrev pub point_value : List ℕ → ℕ → Json
point_value point hits = object (member (codes "point") (string point) (member (codes "hits") (whole hits) no_members))

-- Each point with its hits, in the order of the catalogue.
abbrev pub point_values : List (List ℕ) → List ℕ → List Json
point_values [] counts = []
point_values (point ∷ points) [] = []
point_values (point ∷ points) (hits ∷ counts) = point_value point hits ∷ point_values points counts

-- ---- findings and growth

-- The first failure of a code: its number, the name of its code, its scenario, the reduced scenario, and how many tests the reduction took.
abbrev pub finding_value : (ℕ → List ℕ) → FindingFacts → Json
finding_value code_name finding =
    object (member (codes "number") (whole finding.number)
    (member (codes "code") (string (code_name finding.code))
    (member (codes "scenario") (scenario_value finding.scenario)
    (member (codes "reduced") (scenario_value finding.reduced)
    (member (codes "tests") (whole finding.tests) no_members)))))

abbrev pub cause_value : (ℕ → List ℕ) → CauseFacts → Json
cause_value code_name cause =
    object (member (codes "number") (whole cause.number)
    (member (codes "code") (string (code_name cause.code))
    (member (codes "scenario") (scenario_value cause.scenario) no_members)))

-- How a campaign with a depth grew; null without a depth.
abbrev pub growth_value : List (List ℕ) → (ℕ → List ℕ) → Option GrowthFacts → Json
growth_value names code_name None = null
growth_value names code_name (Some growth) =
    object (member (codes "depth") (whole growth.depth)
    (member (codes "levels") (list_of (map whole growth.levels))
    (member (codes "onward") (whole growth.onward)
    (member (codes "beyond") (whole growth.beyond)
    (nonzero (codes "unseen") growth.unseen
    (member (codes "reached") (list_of (point_values names growth.reached))
    (member (codes "causes") (list_of (map (cause_value code_name) growth.causes)) no_members)))))))

-- ---- the document

-- The whole document, by the names of the points and codes. The seed is a text, since many readers round large numbers.
abbrev pub document_of : List (List ℕ) → (ℕ → List ℕ) → ReportFacts → NotesFacts → ShownFacts → RunsFacts → Json
document_of names code_name report notes shown runs =
    object (member (codes "version") (whole form)
    (member (codes "label") (string report.label)
    (member (codes "seed") (string (decimal report.seed))
    (member (codes "clean") (clean_value code_name report.clean)
    (member (codes "census") (list_of (point_values names report.census))
    (member (codes "counts") (counts_value report.verdicts)
    (member (codes "not_passed") (list_of (reported_values code_name 0 report.verdicts shown.plans))
    (nonzero (codes "unmet") report.unmet
    (member (codes "findings") (list_of (map (finding_value code_name) report.findings))
    (member (codes "growth") (growth_value names code_name report.growth)
    (member (codes "about") (about_value notes shown runs) no_members)))))))))))

-- Each item and each member has a line, and the text ends with a line feed.
abbrev pub text_of : Json → List ℕ
text_of value = pretty (json_tokens value) ++ 10 ∷ []

-- A reader of JSON finds the value in its text. Only a line feed follows the value.
abbrev pub IsReadAs : Json → Type 0
IsReadAs value = document (pretty (json_tokens value)) ≡ Some value
