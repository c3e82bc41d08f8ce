-- A campaign without a depth on a component that somebody else runs: its list of plans, what is still to be tried, and its report, by the
-- settings and by the runs that are recorded.
use Rattle.std.specs.Prelude.{◌≡◌, ◌≤◌, ◌<◌, ℕ, Bool, true, false, List, [], ◌∷◌, Option, None, option_map, length, slice_get, slice_index_or, take}
use Rattle.std.specs.Io.KnownBytes.{Appends}
use Rattle.scenario_values.specs.Scenario.{Entries}
use Rattle.plan_gen.specs.PlanList.{most_plans, plan_list}
use Rattle.result_book.specs.Verdicts.{verdicts_from, numbered}
use Rattle.result_book.specs.FirstFailures.{first_failures}
use Rattle.report.specs.Reports.{ReportFacts}
use Rattle.report.specs.ReportText.{text_of}
use Rattle.answered_runs.specs.asked.Lines.{lines_for}
use Rattle.answer_text.specs.Known.{KnownVerdicts, verdicts_in}
use Rattle.answer_text.specs.Runs.{KnownRuns}
use Rattle.campaign_given.specs.Description.{Description}
use Rattle.campaign_given.specs.Given.{Given}
use Rattle.campaign_core.specs.CommandTexts.{plan_lines}
use Rattle.campaign_core.specs.Findings.{report_of}
use Rattle.campaign_core.specs.declared.ending.CampaignFault.{CampaignFault}
use Rattle.campaign_core.specs.declared.ending.CampaignFault.TheVariants as campaign
use Rattle.outside_campaign.specs.Outside.{Component, say}
use Rattle.outside_campaign.specs.Asked.{to_try, known_failures}
use Rattle.report.specs.json_form.About.{ShownFacts, shown_of}
use Rattle.report.specs.forms.Forms.{text_in}
use Rattle.report.specs.forms.Runs.{Telling}
use Rattle.outside_campaign.specs.Telling.{telling}
use Rattle.outside_campaign.specs.Unmet.{unmet_count}
use Rattle.report.specs.declared.forms.forms.Form.{Form}
use Rattle.outside_campaign.specs.declared.refusal.OutsideFault.{OutsideFault}
use Rattle.outside_campaign.specs.declared.refusal.OutsideFault.TheVariants as refusal

-- The list of plans, over the points and the counts of the settings.
abbrev pub plans : Description → Given → List Entries
plans outside given = plan_list outside.points outside.hits given.plans

abbrev pub plans_text : Description → Given → List ℕ
plans_text outside given = text_of (plan_lines 0 (plans outside given))

-- The name of a code. It is empty if there is no such code.
abbrev pub code_name : List (List ℕ) → ℕ → List ℕ
code_name codes number = slice_index_or codes number []

-- How many plans pass without meeting all of their faults, by the hits that are recorded.
abbrev pub unmet_by : Description → Given → KnownRuns → ℕ
unmet_by outside given known = unmet_count outside.points known (plans outside given)

-- The facts of the report on a component. Recorded hits say how many plans are unmet.
abbrev pub report : Description → Given → KnownRuns → Component → ReportFacts
report outside given known component =
    record (report_of (say component) outside.label given.plans.seed outside.hits (plans outside given) None) { unmet = unmet_by outside given known }

-- What is shown beside the report. None of the plans grew.
abbrev pub shown : Description → Given → ShownFacts
shown outside given = shown_of (plans outside given) [] given.plans.storms (length given.plans.listed) given.source

-- The recorded runs, as a report shows them.
abbrev pub runs_told : Description → KnownRuns → Telling
runs_told outside known = telling outside.points (code_name outside.codes) known

-- The text of the report in a form, which shows the recorded runs.
abbrev pub report_in : Form → Description → Given → KnownRuns → Component → List ℕ
report_in form outside given known component =
    text_in form outside.points (code_name outside.codes) (runs_told outside known) (report outside given known component) (shown outside given)

-- The lowest number of a plan that fails.
abbrev pub first_failure : Description → Given → Component → Option ℕ
first_failure outside given component =
    option_map (λ first. first.0) (slice_get (first_failures (numbered (verdicts_from (say component) 0 (plans outside given)))) 0)

-- What is still to be tried of these plans: the open candidates of the reductions of the known first failures, one for each code; and then the plans
-- that aren't answered.
abbrev pub untried : KnownVerdicts → List Entries → List Entries
untried known plans = to_try known plans (known_failures known plans)

-- The same by the settings and the recorded runs.
abbrev pub untried_by : Description → Given → KnownRuns → List Entries
untried_by outside given known = untried (verdicts_in known) (plans outside given)

-- The text of the lines that ask for it.
abbrev pub asks_text : Description → Given → KnownRuns → List ℕ
asks_text outside given known = text_of (lines_for (untried_by outside given known))

-- Why there is no report: this is the first scenario that is still to be tried, or memory was refused.
abbrev pub IsUnreported : Description → Given → KnownRuns → OutsideFault → Type 0
IsUnreported outside given known (refusal.NotAnswered t) = (more : List Entries) × (untried_by outside given known ≡ t ∷ more)
IsUnreported outside given known (refusal.Campaign campaign.Memory) = Unit {0}
IsUnreported outside given known why = ⊥

-- ---- faults: a sink held `old` and holds `new`, if contracts see its bytes

-- The first n bytes of a text were written, fewer than all.
abbrev pub IsCut : Option (List ℕ) → Option (List ℕ) → List ℕ → ℕ → Type 0
IsCut old new text n = Appends old new (take n text) × (n < length text)

-- What a fault says of a text over these plans that wasn't written whole. If there are too many plans or memory was refused, nothing was written, and
-- the sink hasn't failed. Otherwise the sink failed after this many bytes.
abbrev pub IsUnwritten : List Entries → (ℕ → Type 0) → Option (List ℕ) → Option (List ℕ) → Bool → CampaignFault → Type 0
IsUnwritten plans Cut old new failed campaign.TooManyPlans = (new ≡ old) × (failed ≡ false) × (most_plans < length plans)
IsUnwritten plans Cut old new failed campaign.Memory = (new ≡ old) × (failed ≡ false)
IsUnwritten plans Cut old new failed (campaign.Write n) = Cut n × (failed ≡ true) × (length plans ≤ most_plans)
