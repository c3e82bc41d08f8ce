-- Texts that answer questions on a component that somebody else runs, of a campaign with or without a depth, by the settings and a text of answers.
use Rattle.std.specs.Prelude.{◌≡◌, ◌≤◌, ◌<◌, ℕ, Bool, true, List, [], ◌∷◌, Option, None, Some, Ok, Err, length, Contains}
use Rattle.scenario_values.specs.Scenario.{Entries}
use Rattle.plan_gen.specs.PlanList.{Asked, most_plans}
use Rattle.answered_runs.specs.asked.Lines.{lines_for}
use Rattle.answer_text.specs.Known.{AgreesWithText}
use Rattle.answer_text.specs.Runs.{known_runs, known_strangers, runs_of, told_in}
use Rattle.answer_text.specs.declared.runs.RunLine.{RunLine}
use Rattle.answered_runs.specs.Answered.{Answered, known_plans, runs_in}
use Rattle.answered_runs.specs.Agreement.{AreOfOne, IsContradiction}
use Rattle.answered_runs.specs.SomeComponent.{HasComponent}
use Rattle.campaign_given.specs.Description.{Description}
use Rattle.campaign_given.specs.Given.{Given}
use Rattle.campaign_core.specs.declared.ending.CampaignFault.TheVariants as campaign
use Rattle.grown_plans.specs.GrownPlans.{Subject}
use Rattle.outside_campaign.specs.Campaigns.{asks_text, first_failure, plans, report_in, untried_by}
use Rattle.outside_campaign.specs.Outside.{Component}
use Rattle.outside_campaign.specs.Readable.{IsReadable, IsUnreadable, told_by}
use Rattle.outside_campaign.specs.Partial.{partial_by, partial_text, some_fails, some_fails_by}
use Rattle.report.specs.ReportText.{text_of}
use Rattle.report.specs.declared.forms.forms.Form.{Form}
use Rattle.outside_campaign.specs.declared.refusal.OutsideFault.TheVariants as refusal
use Rattle.answered_runs.specs.grown.Further.{AreTooMany}
use Rattle.outside_campaign.specs.with_depth.Kinds.{listed_kinds}
use Rattle.outside_campaign.specs.with_depth.Grown as grown
use Rattle.outside_campaign.specs.with_depth.Seen.{IsReportAsSeen}
use Rattle.outside_campaign.specs.declared.with_depth.fault.QuestionFault.{QuestionFault}
use Rattle.outside_campaign.specs.declared.with_depth.fault.QuestionFault.TheVariants as fault

-- ---- a campaign with a depth

-- These are the runs that a text of answers without a fault records, with the points and the kinds of faults that the settings list.
pub record Tells (outside : Description) (answers : List ℕ) (a : Answered) : Type 0 where
  pub points : a.points ≡ outside.points
  pub listed : a.listed ≡ listed_kinds outside
  pub told : told_in a.book ≡ known_runs outside.codes outside.points answers
  pub strangers : a.book.strangers ≡ known_strangers outside.points (runs_of outside.codes outside.points answers)
  pub lines : List RunLine
  pub read : runs_of outside.codes outside.points answers ≡ Ok lines

-- Why such a text isn't read: its first fault, or memory was refused.
abbrev pub IsReadingFault : Description → List ℕ → QuestionFault → Type 0
IsReadingFault outside answers (fault.Outside (refusal.Answers f)) = runs_of outside.codes outside.points answers ≡ Err f
IsReadingFault outside answers (fault.Outside (refusal.Campaign campaign.Memory)) = Unit {0}
IsReadingFault outside answers (fault.Outside (refusal.Campaign campaign.TooManyPlans)) = ⊥
IsReadingFault outside answers (fault.Outside (refusal.Campaign (campaign.Write n))) = ⊥
IsReadingFault outside answers (fault.Outside (refusal.NotAnswered t)) = ⊥
IsReadingFault outside answers (fault.Outside (refusal.Census line)) = ⊥
IsReadingFault outside answers (fault.Broken b) = ⊥
IsReadingFault outside answers (fault.Scenario f) = ⊥
IsReadingFault outside answers (fault.Unseen line) = ⊥

-- The lines that ask for what is still to be tried.
abbrev pub grown_lines : Given → ℕ → Answered → List (List ℕ)
grown_lines given depth a = lines_for (grown.untried a depth given.plans)

-- A text asks for what is still to be tried. No two recorded runs contradict each other.
pub record IsAskedText (outside : Description) (given : Given) (depth : ℕ) (answers text : List ℕ) : Type 0 where
  pub runs : Answered
  pub tells : Tells outside answers runs
  pub agree : AreOfOne runs
  pub text_is : text ≡ text_of (grown_lines given depth runs)

-- A text is the report of every component that agrees with the answers, as far as its runs were seen, and `first` is the number of its first plan
-- that fails. Some component agrees with the answers, as far as they are of certain scenarios. Each plan is answered, nothing is still to be tried, and
-- the list isn't too long.
pub record IsReportedText (form : Form) (outside : Description) (given : Given) (depth : ℕ) (answers text : List ℕ) (first : Option ℕ) : Type 0 where
  pub runs : Answered
  pub tells : Tells outside answers runs
  pub agree : AreOfOne runs
  pub all : grown.untried runs depth given.plans ≡ []
  pub few : length (grown.listed runs depth given.plans) ≤ most_plans
  pub some : HasComponent runs depth
  pub each : (t : Subject) → grown.AgreesWithAnswers outside answers t
      → IsReportAsSeen form (grown.campaign outside given depth t) (told_in runs.book) depth (runs_in runs) text first

-- Why there is no report, by recorded runs: two contradict each other; something is still to be tried, and this scenario is part of it; or too many
-- plans are known.
abbrev pub RefusesBy : Answered → ℕ → Asked → QuestionFault → Type 0
RefusesBy a depth asked (fault.Broken b) = IsContradiction a b
RefusesBy a depth asked (fault.Outside (refusal.NotAnswered t)) = Contains (grown.untried a depth asked) t
RefusesBy a depth asked (fault.Outside (refusal.Campaign campaign.TooManyPlans)) = AreTooMany a asked (length (known_plans a depth))
RefusesBy a depth asked (fault.Outside (refusal.Campaign campaign.Memory)) = Unit {0}
RefusesBy a depth asked (fault.Outside (refusal.Campaign (campaign.Write n))) = ⊥
RefusesBy a depth asked (fault.Outside (refusal.Answers f)) = ⊥
RefusesBy a depth asked (fault.Outside (refusal.Census line)) = ⊥
RefusesBy a depth asked (fault.Scenario f) = ⊥
RefusesBy a depth asked (fault.Unseen line) = ⊥

-- The same for a text that doesn't wait for what is still to be tried.
abbrev pub RefusesAsks : Answered → ℕ → Asked → QuestionFault → Type 0
RefusesAsks a depth asked (fault.Outside (refusal.NotAnswered t)) = ⊥
RefusesAsks a depth asked why = RefusesBy a depth asked why

-- Why there is no report, by a text of answers. Its first fault comes before all else.
abbrev pub RefusesGrown : Description → Given → ℕ → List ℕ → QuestionFault → Type 0
RefusesGrown outside given depth answers (fault.Outside (refusal.Answers f)) = runs_of outside.codes outside.points answers ≡ Err f
RefusesGrown outside given depth answers (fault.Outside (refusal.Campaign campaign.Memory)) = Unit {0}
RefusesGrown outside given depth answers why = (a : Answered) × Tells outside answers a × RefusesBy a depth given.plans why

-- A text is the interim report on the plans that are known by now, and `found` says whether one of them is known to fail.
pub record IsPartialText (outside : Description) (given : Given) (depth : ℕ) (answers text : List ℕ) (found : Bool) : Type 0 where
  pub runs : Answered
  pub tells : Tells outside answers runs
  pub agree : AreOfOne runs
  pub text_is : text ≡ partial_text outside given.plans.seed true (grown.known runs depth) (grown.listed runs depth given.plans)
  pub found_is : found ≡ some_fails (grown.known runs depth) (grown.listed runs depth given.plans)

-- ---- a campaign without a depth

-- A text asks for what is still to be tried, by answers without a fault.
pub record IsAskedByCensus (outside : Description) (given : Given) (answers text : List ℕ) : Type 0 where
  pub text_is : text ≡ asks_text outside given (told_by outside answers)
  pub few : length (plans outside given) ≤ most_plans
  pub readable : IsReadable outside answers

-- A text is the report of each component that agrees with the answers, and some component does; nothing is still to be tried.
pub record IsReportedByCensus (form : Form) (outside : Description) (given : Given) (answers text : List ℕ) (first : Option ℕ) : Type 0 where
  pub text_is : (component : Component) → AgreesWithText outside.codes outside.points answers component
      → text ≡ report_in form outside given (told_by outside answers) component
  pub first_is : (component : Component) → AgreesWithText outside.codes outside.points answers component → first ≡ first_failure outside given component
  pub readable : IsReadable outside answers
  pub some : (component : Component) × AgreesWithText outside.codes outside.points answers component
  pub all : untried_by outside given (told_by outside answers) ≡ []
  pub few : length (plans outside given) ≤ most_plans

-- A text is the interim report, and `found` says whether a plan is known to fail.
pub record IsKnownByCensus (outside : Description) (given : Given) (answers text : List ℕ) (found : Bool) : Type 0 where
  pub text_is : text ≡ partial_by outside given (told_by outside answers)
  pub found_is : found ≡ some_fails_by outside given (told_by outside answers)
  pub few : length (plans outside given) ≤ most_plans
  pub readable : IsReadable outside answers

-- Why there is no such text.
abbrev pub RefusesByCensus : Description → Given → List ℕ → QuestionFault → Type 0
RefusesByCensus outside given answers (fault.Outside (refusal.Answers f)) = IsUnreadable outside answers (refusal.Answers f)
RefusesByCensus outside given answers (fault.Outside (refusal.Census line)) = IsUnreadable outside answers (refusal.Census line)
RefusesByCensus outside given answers (fault.Outside (refusal.NotAnswered t)) =
    (more : List Entries) × (untried_by outside given (told_by outside answers) ≡ t ∷ more)
RefusesByCensus outside given answers (fault.Outside (refusal.Campaign campaign.TooManyPlans)) = most_plans < length (plans outside given)
RefusesByCensus outside given answers (fault.Outside (refusal.Campaign campaign.Memory)) = Unit {0}
RefusesByCensus outside given answers (fault.Outside (refusal.Campaign (campaign.Write n))) = ⊥
RefusesByCensus outside given answers (fault.Broken b) = ⊥
RefusesByCensus outside given answers (fault.Scenario f) = ⊥
RefusesByCensus outside given answers (fault.Unseen line) = ⊥

-- ---- a campaign with this depth, if it has one

abbrev pub IsAskedTo : Option ℕ → Description → Given → List ℕ → List ℕ → Type 0
IsAskedTo None outside given answers text = IsAskedByCensus outside given answers text
IsAskedTo (Some depth) outside given answers text = IsAskedText outside given depth answers text

abbrev pub IsReportedTo : Option ℕ → Form → Description → Given → List ℕ → List ℕ → Option ℕ → Type 0
IsReportedTo None form outside given answers text first = IsReportedByCensus form outside given answers text first
IsReportedTo (Some depth) form outside given answers text first = IsReportedText form outside given depth answers text first

abbrev pub IsKnownTo : Option ℕ → Description → Given → List ℕ → List ℕ → Bool → Type 0
IsKnownTo None outside given answers text found = IsKnownByCensus outside given answers text found
IsKnownTo (Some depth) outside given answers text found = IsPartialText outside given depth answers text found

-- Why there is no report.
abbrev pub Refuses : Option ℕ → Description → Given → List ℕ → QuestionFault → Type 0
Refuses None outside given answers why = RefusesByCensus outside given answers why
Refuses (Some depth) outside given answers why = RefusesGrown outside given depth answers why

-- Why there is no text of what is asked, or no interim report. Neither waits for what is still to be tried.
abbrev pub RefusesYet : Option ℕ → Description → Given → List ℕ → QuestionFault → Type 0
RefusesYet depth outside given answers (fault.Outside (refusal.NotAnswered t)) = ⊥
RefusesYet depth outside given answers why = Refuses depth outside given answers why
