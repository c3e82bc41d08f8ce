-- What is recorded of a component, with the plans that it makes known. Questions on a campaign are put to this one value, with a depth or without.
use Rattle.std.specs.Prelude.{◌≡◌, ◌≤◌, ◌<◌, ℕ, List, Option, None, Some, length}
use Rattle.scenario_values.specs.Scenario.{Entries}
use Rattle.plan_gen.specs.PlanList.{most_plans}
use Rattle.answer_text.specs.Runs.{RunBook, told_in}
use Rattle.answer_text.specs.declared.runs.Stranger.{Stranger}
use Rattle.answered_runs.specs.Agreement.{AreOfOne}
use Rattle.answered_runs.specs.KnownLists.{KnownList}
use Rattle.campaign_given.specs.Description.{Description}
use Rattle.campaign_given.specs.Given.{Given}
use Rattle.outside_campaign.specs.Campaigns.{plans as listed}
use Rattle.outside_campaign.specs.Readable.{IsReadable, strangers_by, told_by}
use Rattle.outside_campaign.specs.declared.recorded.Recorded.{Recorded}
use Rattle.outside_campaign.specs.declared.recorded.Recorded.TheVariants.{ByCensus, ByRuns}
use Rattle.outside_campaign.specs.with_depth.Questions.{Tells}

-- The depth to which plans grow, if they do.
abbrev pub depth_of : Recorded → Option ℕ
depth_of (ByCensus runs plans) = None
depth_of (ByRuns known) = Some known.now.depth

-- The names in answered scenarios that no point has.
abbrev pub strangers_of : Recorded → List Stranger
strangers_of (ByCensus runs plans) = runs.now.strangers
strangers_of (ByRuns known) = known.now.answered.book.strangers

-- Without a depth: this is what a text of answers records that can be used, and these are the settings' plans, of which there is one at least.
pub record RecordsByCensus (outside : Description) (given : Given) (answers : List ℕ) (book : RunBook) (plans : List Entries) : Type 0 where
  pub told : told_in book ≡ told_by outside answers
  pub strangers : book.strangers ≡ strangers_by outside answers
  pub readable : IsReadable outside answers
  pub list : plans ≡ listed outside given
  pub few : length plans ≤ most_plans
  pub some : 0 < length plans

-- With a depth: these are the runs that a text of answers records, and they don't contradict each other.
pub record RecordsRuns (outside : Description) (answers : List ℕ) (known : KnownList) : Type 0 where
  pub tells : Tells outside answers known.answered
  pub agree : AreOfOne known.answered

-- This is what a text of answers records of a component, with the plans of its campaign.
abbrev pub Records : Description → Given → List ℕ → Recorded → Type 0
Records outside given answers (ByCensus runs plans) = RecordsByCensus outside given answers runs.now plans.now
Records outside given answers (ByRuns known) = RecordsRuns outside answers known.now
