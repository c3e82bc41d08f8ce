-- What is recorded of a component, as answers to questions.
use Rattle.std.proofs.Common.{◌≡◌, ◌≤◌, ◌∙◌, ℕ, Bool, false, List, [], Option, length, ap, sym, subst}
use Rattle.plan_gen.specs.PlanList.{most_plans}
use Rattle.scenario_values.specs.Scenario.{Entries}
use Rattle.answered_runs.specs.asked.Lines.{lines_for}
use Rattle.answer_text.specs.Known.{Agrees, AgreesWithText, verdicts_in}
use Rattle.answer_text.specs.Runs.{KnownRuns, RunBook, told_in}
use Rattle.answer_text.proofs.Agreement.{agrees_by}
use Rattle.campaign_given.specs.Description.{Description}
use Rattle.campaign_given.specs.Given.{Given}
use Rattle.report.specs.ReportText.{text_of}
use Rattle.report.specs.declared.forms.forms.Form.{Form}
use Rattle.outside_campaign.specs.Campaigns.{asks_text, first_failure, plans, report_in, untried, untried_by}
use Rattle.outside_campaign.specs.Outside.{Component}
use Rattle.outside_campaign.specs.Partial.{partial_by, partial_text, some_fails, some_fails_by}
use Rattle.outside_campaign.specs.Recorded.{RecordsByCensus}
use Rattle.outside_campaign.specs.with_depth.Questions.{IsAskedByCensus, IsKnownByCensus, IsReportedByCensus}
use Rattle.outside_campaign.proofs.ResultLemmas.{some_component}

module _ (outside : Description) (given : Given) (answers : List ℕ) (book : RunBook) (list : List Entries) (h : RecordsByCensus outside given answers book list) where
  agrees : (component : Component) → AgreesWithText outside.codes outside.points answers component → Agrees component (verdicts_in (told_in book))
  agrees component agrees_so = subst (λ (k : KnownRuns). Agrees component (verdicts_in k)) (sym h.told) (agrees_by outside.codes outside.points answers component agrees_so)

  few : length (plans outside given) ≤ most_plans
  few = subst (λ (ps : List Entries). length ps ≤ most_plans) h.list h.few

  -- the report without a depth of each component that agrees with what is recorded
  pub reported_by : (form : Form) (text : List ℕ) (first : Option ℕ)
      → ((component : Component) → Agrees component (verdicts_in (told_in book)) → text ≡ report_in form outside given (told_in book) component)
      → ((component : Component) → Agrees component (verdicts_in (told_in book)) → first ≡ first_failure outside given component)
      → untried_by outside given (told_in book) ≡ [] → IsReportedByCensus form outside given answers text first
  reported_by form text first text_is first_is all = record {
    text_is = λ component so. text_is component (agrees component so) ∙ ap (λ (k : KnownRuns). report_in form outside given k component) h.told;
    first_is = λ component so. first_is component (agrees component so);
    readable = h.readable;
    some = some_component outside answers h.readable;
    all = ap (λ (k : KnownRuns). untried_by outside given k) (sym h.told) ∙ all;
    few = few;
  }

  -- and what is known so far
  pub known_by : (text : List ℕ) (found : Bool) → text ≡ partial_text outside given.plans.seed false (verdicts_in (told_in book)) list
      → found ≡ some_fails (verdicts_in (told_in book)) list → IsKnownByCensus outside given answers text found
  known_by text found is found_is = record {
    text_is = is ∙ ap (λ (ps : List Entries). partial_text outside given.plans.seed false (verdicts_in (told_in book)) ps) h.list
        ∙ ap (λ (k : KnownRuns). partial_by outside given k) h.told;
    found_is = found_is ∙ ap (λ (ps : List Entries). some_fails (verdicts_in (told_in book)) ps) h.list ∙ ap (λ (k : KnownRuns). some_fails_by outside given k) h.told;
    few = few;
    readable = h.readable;
  }

  -- and what is asked
  pub asked_by : (text : List ℕ) → text ≡ text_of (lines_for (untried (verdicts_in (told_in book)) list)) → IsAskedByCensus outside given answers text
  asked_by text is = record {
    text_is = is ∙ ap (λ (ps : List Entries). text_of (lines_for (untried (verdicts_in (told_in book)) ps))) h.list
        ∙ ap (λ (k : KnownRuns). asks_text outside given k) h.told;
    few = few;
    readable = h.readable;
  }
