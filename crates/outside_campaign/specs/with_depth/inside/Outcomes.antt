-- What plans come to whose verdicts are known. Private contracts cite it.
use Rattle.std.specs.Prelude.{◌≡◌, ◌≤◌, ◌<◌, ◌++◌, ℕ, All, List, [], ◌∷◌, length, map, Contains, Option}
use Rattle.std.specs.List.{AllByRecursion}
use Rattle.scenario_values.specs.Scenario.{Entries, IsScenario}
use Rattle.action_eval.specs.declared.rig.Rig.{Rig}
use Rattle.plan_gen.specs.Census.{sites_of}
use Rattle.plan_gen.specs.PlanList.{Asked, most_plans}
use Rattle.grown_plans.specs.numbered.GrownScenarios.{grown_scenarios}
use Rattle.grown_plans.specs.GrownPlans.{Subject}
use Rattle.target_trait.specs.declared.judgement.Verdict.{Verdict}
use Rattle.result_book.specs.Verdicts.{verdicts_from}
use Rattle.answer_text.specs.Known.{KnownVerdicts}
use Rattle.answer_text.specs.Runs.{told_in}
use Rattle.answered_runs.specs.Answered.{Answered, known_plans}
use Rattle.answered_runs.specs.Components.{AgreesWithRuns, IsComponent}
use Rattle.campaign_core.specs.Findings.{finding}
use Rattle.outside_campaign.specs.Asked.{known_failures, open_requests, open_plans}
use Rattle.outside_campaign.specs.Outside.{Components, EachAgrees, say_each}
use Rattle.grown_runs.specs.GrownRuns.{cause_at, over}
use Rattle.answered_runs.specs.grown.Causes.{open_scenarios}
use Rattle.answered_runs.specs.grown.Further.{HasFewHits, census_seen, clean_hits, further_told}
use Rattle.answered_runs.specs.grown.Lists.{IsListOf}
use Rattle.answered_runs.specs.Answered.{runs_in}
use Rattle.answered_runs.specs.KnownLists.{KnownList}
use Rattle.answered_runs.specs.WholeList.{AreAllTold}
use Rattle.campaign_core.specs.declared.ending.CampaignFault.TheVariants as campaign
use Rattle.campaign_given.specs.Description.{Description}
use Rattle.campaign_given.specs.Given.{Given}
use Rattle.report.specs.declared.forms.forms.Form.{Form}
use Rattle.outside_campaign.specs.declared.refusal.OutsideFault.TheVariants as refusal
use Rattle.answered_runs.specs.grown.Asked.{unrun}
use Rattle.outside_campaign.specs.with_depth.Grown.{known}
use Rattle.outside_campaign.specs.with_depth.Seen.{first_number_seen, plans_seen, report_seen_in}
use Rattle.outside_campaign.specs.with_depth.Grown.{campaign as campaign_of}
use Rattle.outside_campaign.specs.declared.with_depth.fault.QuestionFault.{QuestionFault}
use Rattle.outside_campaign.specs.declared.with_depth.fault.QuestionFault.TheVariants as fault
use Rattle.outside_campaign.specs.declared.with_depth.candidates.Told.{Told}
use Rattle.outside_campaign.specs.declared.with_depth.candidates.Outcome.{Outcome}
use Rattle.outside_campaign.specs.declared.with_depth.candidates.Outcome.TheVariants as outcome

-- The open candidates of the reductions of the known first failures.
abbrev pub open_candidates : Answered → ℕ → List Entries → List Entries
open_candidates a depth plans = open_requests (known a depth) plans (known_failures (known a depth) plans)

-- If nothing is open, these are the findings of every family of components that agrees with what is known, and the causes.
pub record IsTold (a : Answered) (depth : ℕ) (plans : List Entries) (grew : List (List Rig)) (told : Told) : Type 0 where
  pub none_open : open_candidates a depth plans ≡ []
  pub none_lesser : open_scenarios a depth grew ≡ []
  pub findings : (components : Components) → EachAgrees components (known a depth)
      → told.findings.items ≡ map (finding (say_each components) plans) (known_failures (known a depth) plans)
  pub causes : (t : Subject) → IsComponent a.points a.listed t → depth ≤ 64 → AgreesWithRuns t (told_in a.book)
      → (seed : ℕ) → told.causes.items ≡ over (cause_at t seed) grew 0 (length grew)
  pub among : All (λ cause. cause.0 < length grew) told.causes.items

abbrev pub IsOutcome : KnownList → List Entries → Outcome → Type 0
IsOutcome k plans (outcome.Told told) = IsTold k.answered k.depth plans k.list.plans told
IsOutcome k plans (outcome.Open requests) = (0 < length requests.items)
    × (requests.items ≡ open_candidates k.answered k.depth plans ++ open_scenarios k.answered k.depth k.list.plans)

-- The list of a campaign with a depth, if the run of each plan that grew is recorded.
pub record AreToldLists (k : KnownList) (asked : Asked) (further : List Entries) : Type 0 where
  pub grown : k.list.plans ≡ known_plans k.answered k.depth
  pub further_are : further ≡ further_told k.answered asked
  pub told : AreAllTold (runs_in k.answered) k.list.plans
  pub whole : (t : Subject) → IsComponent k.answered.points k.answered.listed t → AgreesWithRuns t (told_in k.answered.book)
      → IsListOf t k.depth asked k.answered k.list further

-- Why a list of plans isn't answered: the run of the plan that the fault names isn't recorded, or memory was refused.
abbrev pub IsGapFault : Answered → List (List Rig) → QuestionFault → Type 0
IsGapFault a plans (fault.Outside (refusal.Campaign campaign.Memory)) = Unit {0}
IsGapFault a plans (fault.Outside (refusal.NotAnswered t)) = Contains (unrun a plans) t
IsGapFault a plans why = ⊥

-- A text is the report of each component that agrees, as far as its runs were seen; and a number is that of its first plan that fails.
abbrev pub IsTextOf : Form → Description → Given → Answered → ℕ → List ℕ → Type 0
IsTextOf form outside given a depth text =
    (t : Subject) → IsComponent a.points a.listed t → AgreesWithRuns t (told_in a.book)
    → text ≡ report_seen_in form (campaign_of outside given depth t) (told_in a.book) depth (runs_in a)

abbrev pub IsFirstNumberOf : Description → Given → Answered → ℕ → Option ℕ → Type 0
IsFirstNumberOf outside given a depth first =
    (t : Subject) → IsComponent a.points a.listed t → AgreesWithRuns t (told_in a.book)
    → first ≡ first_number_seen (campaign_of outside given depth t) depth (runs_in a)

-- The list of each component that agrees has lawful scenarios.
abbrev pub AreLawfulOf : Description → Given → Answered → ℕ → Type 0
AreLawfulOf outside given a depth =
    (t : Subject) → IsComponent a.points a.listed t → AgreesWithRuns t (told_in a.book)
    → AllByRecursion (λ s. IsScenario s) (plans_seen (campaign_of outside given depth t) depth (runs_in a))

-- The fault names the first open plan, or memory was refused.
abbrev pub IsOpenPlan : KnownVerdicts → List Entries → QuestionFault → Type 0
IsOpenPlan known plans (fault.Outside (refusal.NotAnswered t)) = (rest : List Entries) × (open_plans known plans ≡ t ∷ rest)
IsOpenPlan known plans (fault.Outside (refusal.Campaign campaign.Memory)) = Unit {0}
IsOpenPlan known plans why = ⊥

-- The fault names one of these scenarios. If there are none, it is that memory was refused.
abbrev pub IsFirstOf : List Entries → QuestionFault → Type 0
IsFirstOf requests (fault.Outside (refusal.NotAnswered t)) = Contains requests t
IsFirstOf requests (fault.Outside (refusal.Campaign campaign.Memory)) = requests ≡ []
IsFirstOf requests why = ⊥

-- How often the run without faults hits each point, for each component that agrees; 0 for each point if its hits aren't recorded.
pub record IsCleanCensus (a : Answered) (counts : List ℕ) : Type 0 where
  pub each : (t : Subject) → IsComponent a.points a.listed t → AgreesWithRuns t (told_in a.book) → (seed : ℕ) → counts ≡ census_seen t seed (clean_hits a)
  pub many : length counts ≡ length a.points
  pub few : length (sites_of counts) ≤ most_plans

-- A campaign with a depth in which all is known: the verdict of each plan, the findings and the causes.
pub record IsDecided (outside : Description) (given : Given) (k : KnownList) (further plans : List Entries) (all : List Verdict) (told : Told) : Type 0 where
  pub points : k.answered.points ≡ outside.points
  pub low : k.depth ≤ 64
  pub clean : HasFewHits k.answered
  pub lists_are : AreToldLists k given.plans further
  pub plans_are : plans ≡ grown_scenarios k.answered.points k.list.plans ++ further
  pub lawful : AllByRecursion (λ s. IsScenario s) plans
  pub none_open : open_plans (known k.answered k.depth) plans ≡ []
  pub verdicts : (components : Components) → EachAgrees components (known k.answered k.depth) → all ≡ verdicts_from (say_each components) 0 plans
  pub many : length all ≡ length plans
  pub told_is : IsTold k.answered k.depth plans k.list.plans told
