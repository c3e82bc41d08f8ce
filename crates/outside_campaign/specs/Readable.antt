-- Which texts of answers can be used: their lines are answers, and if one records the hits of the run without faults, there are as many at each point
-- as the settings say.
use Rattle.std.specs.Prelude.{◌≡◌, ◌≢◌, ℕ, false, List, [], Some, Err, length}
use Rattle.plan_gen.specs.Census.{counts_of}
use Rattle.answer_text.specs.Answers.{Says}
use Rattle.answer_text.specs.Hits.{points_of}
use Rattle.answer_text.specs.Runs.{KnownRuns, answers_of, known_answers, known_strangers}
use Rattle.answer_text.specs.declared.hits.Stretch.{Stretch}
use Rattle.answer_text.specs.declared.runs.RunLine.{RunLine}
use Rattle.answer_text.specs.declared.runs.Stranger.{Stranger}
use Rattle.answer_text.specs.declared.runs.ToldRun.{ToldRun}
use Rattle.campaign_given.specs.Description.{Description}
use Rattle.campaign_core.specs.declared.ending.CampaignFault.TheVariants as campaign
use Rattle.outside_campaign.specs.declared.refusal.OutsideFault.{OutsideFault}
use Rattle.outside_campaign.specs.declared.refusal.OutsideFault.TheVariants as refusal

-- The recorded run of each tidied scenario.
abbrev pub told_by : Description → List ℕ → KnownRuns
told_by outside answers = known_answers outside.codes outside.points answers

-- The names in the answered scenarios that no point has.
abbrev pub strangers_by : Description → List ℕ → List Stranger
strangers_by outside answers = known_strangers outside.points (answers_of outside.codes outside.points answers)

-- How many of these hits are at each point.
abbrev pub census_of : Description → List Stretch → List ℕ
census_of outside hits = counts_of (length outside.points) (points_of hits)

-- If the hits of the run without faults are recorded, they have the census of the settings.
abbrev pub KeepsCensus : Description → KnownRuns → Type 0
KeepsCensus outside known = (told : ToldRun) (hits : List Stretch) → known [] ≡ Some told → told.hits ≡ Some hits → census_of outside hits ≡ outside.hits

-- The line of this number records these hits, and they have another census.
pub record HasOtherCensus (outside : Description) (known : KnownRuns) (line : ℕ) : Type 0 where
  pub told : ToldRun
  pub hits : List Stretch
  pub told_is : known [] ≡ Some told
  pub hits_are : told.hits ≡ Some hits
  pub line_is : line ≡ told.line
  pub other : census_of outside hits ≢ outside.hits

pub record IsReadable (outside : Description) (answers : List ℕ) : Type 0 where
  pub said : List RunLine
  pub says : Says false outside.codes outside.points answers said
  pub census : KeepsCensus outside (told_by outside answers)

-- Why a text can't be used: the first fault of its lines, or a census other than that of the settings.
abbrev pub IsUnreadable : Description → List ℕ → OutsideFault → Type 0
IsUnreadable outside answers (refusal.Answers fault) = answers_of outside.codes outside.points answers ≡ Err fault
IsUnreadable outside answers (refusal.Census line) = HasOtherCensus outside (told_by outside answers) line
IsUnreadable outside answers (refusal.NotAnswered t) = ⊥
IsUnreadable outside answers (refusal.Campaign campaign.TooManyPlans) = ⊥
IsUnreadable outside answers (refusal.Campaign campaign.Memory) = Unit {0}
IsUnreadable outside answers (refusal.Campaign (campaign.Write n)) = ⊥
