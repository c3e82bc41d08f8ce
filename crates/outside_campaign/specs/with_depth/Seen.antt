-- The report of a campaign with a depth, as far as its runs were seen. No plans grow from a run that is recorded without its hits.
use Rattle.std.specs.Prelude.{◌≡◌, ℕ, ◌+◌, List, [], Option, Some, length, map, option_map, slice_get}
use Rattle.std.specs.List.{filter, range_with_len}
use Rattle.scenario_values.specs.Scenario.{Entries}
use Rattle.grown_plans.specs.GrownPlans.{Subject, onward, run_of_plan}
use Rattle.grown_runs.specs.GrownRuns.{cause_at, over}
use Rattle.grown_runs.specs.known.Known.{KnownRuns, hits_of}
use Rattle.grown_runs.specs.known.KnownPart.{is_reached_onward, known_part}
use Rattle.grown_runs.specs.known.KnownPlans.{level_size}
use Rattle.grown_runs.specs.known.Unseen.{BeginsUnseen, unseen}
use Rattle.answer_text.specs.Runs.{KnownRuns as ToldRuns}
use Rattle.outside_campaign.specs.Telling.{telling}
use Rattle.result_book.specs.Verdicts.{numbered, verdicts_from}
use Rattle.result_book.specs.FirstFailures.{first_failures}
use Rattle.report.specs.Reports.{GrowthFacts, ReportFacts}
use Rattle.campaign_core.specs.promises.Promises.{PromisesAsSeen}
use Rattle.campaign_core.specs.promises.Further.{Further}
use Rattle.campaign_core.specs.promises.Told.{Told}
use Rattle.campaign_core.specs.Findings.{cause_of, report_of}
use Rattle.campaign_core.specs.Headline.{Campaign, KeepsPromises, grower, say}
use Rattle.report.specs.json_form.About.{ShownFacts, shown_of}
use Rattle.report.specs.forms.Forms.{text_in}
use Rattle.report.specs.declared.forms.forms.Form.{Form}
use Rattle.answered_runs.specs.grown.Further.{census_seen}
use Rattle.answered_runs.specs.grown.Lists.{list_known}
use Rattle.answered_runs.specs.grown.Reached.{reached_seen}
use Rattle.outside_campaign.specs.with_depth.Grown.{first_number, report_in}

-- The list of the plans that recorded runs make known.
abbrev pub plans_seen : Campaign → ℕ → KnownRuns → List Entries
plans_seen c depth known = list_known (grower c) depth c.given.plans known

-- How many of them have a sticky last fault.
abbrev pub onward_seen : Subject → ℕ → KnownRuns → ℕ
onward_seen t depth known = length (filter (is_reached_onward known) (onward t depth))

-- The report's facts on how they grew.
abbrev pub growth_seen : Subject → ℕ → List Entries → ℕ → KnownRuns → GrowthFacts
growth_seen t seed plans depth known = record {
  depth = depth;
  levels = map (level_size t known) (range_with_len 0 (depth + 1));
  onward = onward_seen t depth known;
  beyond = level_size t known (depth + 1);
  unseen = length (unseen t depth known);
  reached = reached_seen t depth known;
  causes = map (cause_of plans) (over (cause_at t seed) (known_part t depth known) 0 (length (known_part t depth known)));
}

-- The facts of the report.
abbrev pub report_seen : Campaign → ℕ → KnownRuns → ReportFacts
report_seen c depth known =
    report_of (say c) c.label c.given.plans.seed (census_seen (grower c) c.given.plans.seed (hits_of known [])) (plans_seen c depth known)
    (Some (growth_seen (grower c) c.given.plans.seed (plans_seen c depth known) depth known))

-- What the report prints, and the behaviours of its plans.
abbrev pub told_seen : Campaign → ℕ → KnownRuns → Told
told_seen c depth known = record {
  report = report_seen c depth known;
  growth = growth_seen (grower c) c.given.plans.seed (plans_seen c depth known) depth known;
  behaviours = map (run_of_plan (grower c)) (known_part (grower c) depth known);
}

-- What is shown beside the report.
abbrev pub shown_seen : Campaign → ℕ → KnownRuns → ShownFacts
shown_seen c depth known =
    shown_of (plans_seen c depth known) (known_part (grower c) depth known) c.given.plans.storms (length c.given.plans.listed) c.given.source

-- The report in a form, with the recorded runs.
abbrev pub report_seen_in : Form → Campaign → ToldRuns → ℕ → KnownRuns → List ℕ
report_seen_in form c told depth known =
    text_in form c.points c.codes (telling c.points c.codes told) (report_seen c depth known) (shown_seen c depth known)

-- The lowest number of a plan that fails.
abbrev pub first_number_seen : Campaign → ℕ → KnownRuns → Option ℕ
first_number_seen c depth known = option_map (λ first. first.0) (slice_get (first_failures (numbered (verdicts_from (say c) 0 (plans_seen c depth known)))) 0)

-- A text is the report of the whole campaign, and `first` is the number of its first plan that fails. It keeps what the report of a target does.
pub record IsReportOf (form : Form) (c : Campaign) (told : ToldRuns) (text : List ℕ) (first : Option ℕ) : Type 0 where
  pub text_is : text ≡ report_in form c told
  pub first_is : first ≡ first_number c
  pub promises : KeepsPromises c

-- A text is the report of a campaign as far as its runs were seen, and `first` is the number of its first plan that fails. If no run is unseen, they
-- are those of the whole campaign. The report keeps its promises of each behaviour that doesn't begin like an unseen run.
pub record IsReportAsSeen (form : Form) (c : Campaign) (told : ToldRuns) (depth : ℕ) (known : KnownRuns) (text : List ℕ) (first : Option ℕ) : Type 0 where
  pub text_is : text ≡ report_seen_in form c told depth known
  pub first_is : first ≡ first_number_seen c depth known
  pub whole : unseen (grower c) depth known ≡ [] → IsReportOf form c told text first
  pub promises : PromisesAsSeen (grower c) depth (told_seen c depth known) (BeginsUnseen (grower c) depth known)
  pub further : Further (grower c) (plans_seen c depth known) (told_seen c depth known)
