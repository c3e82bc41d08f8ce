-- A campaign with a depth on a component that somebody else runs: its report, for each component that agrees with the answers, and what is still to
-- be tried.
use Rattle.std.specs.Prelude.{◌≡◌, ◌++◌, ℕ, List, [], ◌∷◌, Option, Some, length, option_map}
use Rattle.scenario_values.specs.Scenario.{Entries}
use Rattle.plan_gen.specs.PlanList.{Asked}
use Rattle.grown_plans.specs.numbered.GrownScenarios.{grown_scenarios}
use Rattle.grown_plans.specs.GrownPlans.{Subject}
use Rattle.answer_text.specs.Known.{KnownVerdicts}
use Rattle.answer_text.specs.Runs.{KnownRuns, known_runs, told_in}
use Rattle.answered_runs.specs.Answered.{Answered, known_plans}
use Rattle.answered_runs.specs.Components.{AgreesWithRuns, IsComponent}
use Rattle.answered_runs.specs.Verdicts.{verdict_by}
use Rattle.campaign_given.specs.Description.{Description}
use Rattle.campaign_given.specs.Given.{Given}
use Rattle.campaign_core.specs.Headline.{Campaign, first_failure, grown_to, plans, report}
use Rattle.outside_campaign.specs.Asked.{known_failures, open_requests}
use Rattle.outside_campaign.specs.Campaigns.{code_name}
use Rattle.outside_campaign.specs.Telling.{telling}
use Rattle.report.specs.json_form.About.{ShownFacts, shown_of}
use Rattle.report.specs.forms.Forms.{text_in}
use Rattle.report.specs.declared.forms.forms.Form.{Form}
use Rattle.answered_runs.specs.grown.Asked.{to_try}
use Rattle.answered_runs.specs.grown.Causes.{open_scenarios}
use Rattle.answered_runs.specs.grown.Further.{further_told}
use Rattle.outside_campaign.specs.with_depth.Kinds.{listed_kinds}

-- ---- the report

-- A component that keeps a target's laws and agrees with each line of the answers. Its kinds of faults are those that the settings list.
pub record AgreesWithAnswers (outside : Description) (answers : List ℕ) (t : Subject) : Type 0 where
  pub component : IsComponent outside.points (listed_kinds outside) t
  pub agrees : AgreesWithRuns t (known_runs outside.codes outside.points answers)

-- The component's campaign, as that of a target which the program runs itself.
abbrev pub campaign : Description → Given → ℕ → Subject → Campaign
campaign outside given depth t = record {
  asks = t.asks;
  points = outside.points;
  codes = code_name outside.codes;
  label = outside.label;
  kinds = t.kinds;
  given = record {
    workers = given.workers;
    max_hits = t.limit;
    depth = Some depth;
    crash_states = given.crash_states;
    plans = given.plans;
    source = given.source;
  };
}

-- What is shown of the campaign beside its report.
abbrev pub shown : Campaign → ShownFacts
shown c = shown_of (plans c) (grown_to c c.given.depth) c.given.plans.storms (length c.given.plans.listed) c.given.source

-- The report in a form, with the recorded runs.
abbrev pub report_in : Form → Campaign → KnownRuns → List ℕ
report_in form c told = text_in form c.points c.codes (telling c.points c.codes told) (report c) (shown c)

-- The lowest number of a plan that fails.
abbrev pub first_number : Campaign → Option ℕ
first_number c = option_map (λ first. first.0) (first_failure c)

-- ---- what is still to be tried

-- The known verdicts of scenarios: those that are recorded, and those that follow from recorded runs.
abbrev pub known : Answered → ℕ → KnownVerdicts
known a depth = verdict_by a.points (told_in a.book) depth

-- The plans that are known by now: those that grow, and then the storms and listed scenarios.
abbrev pub listed : Answered → ℕ → Asked → List Entries
listed a depth asked = grown_scenarios a.points (known_plans a depth) ++ further_told a asked

-- These are the first of the scenarios.
abbrev pub BeginsWith : List Entries → List Entries → Type 0
BeginsWith first all = (rest : List Entries) × (all ≡ first ++ rest)

-- The scenarios that decide the rest once every plan is answered: what the first failures are reduced to, and which plans are causes.
abbrev pub candidates : Answered → ℕ → Asked → List Entries
candidates a depth asked =
    open_requests (known a depth) (listed a depth asked) (known_failures (known a depth) (listed a depth asked)) ++ open_scenarios a depth (known_plans a depth)

abbrev pub or_else : List Entries → List Entries → List Entries
or_else [] others = others
or_else (s ∷ more) others = s ∷ more

-- What is still to be tried: the plans that aren't answered or, if there are none, those candidates.
abbrev pub untried : Answered → ℕ → Asked → List Entries
untried a depth asked = or_else (to_try a depth asked) (candidates a depth asked)
