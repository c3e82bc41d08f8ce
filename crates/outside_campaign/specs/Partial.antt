-- The interim report of a campaign on a component that somebody else runs: how many of its plans are answered, which are known not to pass, and which
-- is the first that is known to fail.
use Rattle.std.specs.Prelude.{ℕ, Bool, false, List, [], ◌∷◌, ◌++◌, Option, None, Some, if◌then◌else◌, is_some, length, count_by, flat_map, slice_get, codes}
use Rattle.std.specs.Fmt.{decimal}
use Rattle.scenario_values.specs.Scenario.{Entries}
use Rattle.scenario_values.specs.Tidied.{tidied}
use Rattle.target_trait.specs.declared.judgement.Verdict.{Verdict}
use Rattle.target_trait.specs.declared.judgement.Verdict.TheVariants as verdict
use Rattle.report.specs.ReportText.{scenario_text, verdict_text, text_of}
use Rattle.answer_text.specs.Known.{KnownVerdicts, verdicts_in}
use Rattle.answer_text.specs.Runs.{KnownRuns}
use Rattle.campaign_given.specs.Description.{Description}
use Rattle.campaign_given.specs.Given.{Given}
use Rattle.outside_campaign.specs.Campaigns.{code_name, plans as listed}

-- ---- by what is known of a list of plans

-- How many of the plans have a known verdict.
abbrev pub answered_count : KnownVerdicts → List Entries → ℕ
answered_count known plans = count_by (λ plan. is_some (known (tidied plan))) plans

-- The line that says how many of how many plans are answered. If the list still grows, only the plans that are known by now count.
abbrev pub answered_line : Bool → ℕ → ℕ → List ℕ
answered_line is_growing answered many =
    codes "answered " ++ decimal answered ++ codes " of " ++ decimal many ++ (if is_growing then codes " known" else [])

-- The line of a plan with its verdict.
abbrev pub known_line : (ℕ → List ℕ) → Verdict → Entries → List ℕ
known_line code_name verdict plan = codes "known " ++ verdict_text code_name verdict ++ codes " " ++ scenario_text plan

-- There is no line for a plan that passes or whose verdict isn't known.
abbrev pub known_line_of : (ℕ → List ℕ) → Entries → Option Verdict → List (List ℕ)
known_line_of code_name plan None = []
known_line_of code_name plan (Some verdict.Pass) = []
known_line_of code_name plan (Some (verdict.Fail code)) = known_line code_name (verdict.Fail code) plan ∷ []
known_line_of code_name plan (Some verdict.Unresolved) = known_line code_name verdict.Unresolved plan ∷ []

-- The lines of the plans that are known not to pass, in their order.
abbrev pub known_lines : (ℕ → List ℕ) → KnownVerdicts → List Entries → List (List ℕ)
known_lines code_name known plans = flat_map (λ plan. known_line_of code_name plan (known (tidied plan))) plans

-- The code that a plan is known to fail with, and the plan.
abbrev pub failure_of : Entries → Option Verdict → List (ℕ × Entries)
failure_of plan None = []
failure_of plan (Some verdict.Pass) = []
failure_of plan (Some (verdict.Fail code)) = (code, plan) ∷ []
failure_of plan (Some verdict.Unresolved) = []

-- The same for all plans that are known to fail, in their order.
abbrev pub known_to_fail : KnownVerdicts → List Entries → List (ℕ × Entries)
known_to_fail known plans = flat_map (λ plan. failure_of plan (known (tidied plan))) plans

-- The first of them.
abbrev pub first_so_far : KnownVerdicts → List Entries → Option (ℕ × Entries)
first_so_far known plans = slice_get (known_to_fail known plans) 0

abbrev pub first_line : (ℕ → List ℕ) → Option (ℕ × Entries) → List ℕ
first_line code_name None = codes "first so far none"
first_line code_name (Some first) = codes "first so far " ++ code_name first.0 ++ codes " " ++ scenario_text first.1

-- All lines. Those of the label and the seed come first.
abbrev pub partial_lines : Description → ℕ → Bool → KnownVerdicts → List Entries → List (List ℕ)
partial_lines outside seed is_growing known plans =
    (codes "target " ++ outside.label)
    ∷ (codes "seed " ++ decimal seed)
    ∷ answered_line is_growing (answered_count known plans) (length plans)
    ∷ []
    ++ known_lines (code_name outside.codes) known plans
    ++ first_line (code_name outside.codes) (first_so_far known plans) ∷ []

abbrev pub partial_text : Description → ℕ → Bool → KnownVerdicts → List Entries → List ℕ
partial_text outside seed is_growing known plans = text_of (partial_lines outside seed is_growing known plans)

-- Whether a plan is known to fail.
abbrev pub some_fails : KnownVerdicts → List Entries → Bool
some_fails known plans = is_some (first_so_far known plans)

-- ---- without a depth, by the settings and the recorded runs

abbrev pub partial_by : Description → Given → KnownRuns → List ℕ
partial_by outside given known = partial_text outside given.plans.seed false (verdicts_in known) (listed outside given)

abbrev pub some_fails_by : Description → Given → KnownRuns → Bool
some_fails_by outside given known = some_fails (verdicts_in known) (listed outside given)
