-- The recorded run of a scenario, hit by hit, by a text of answers.
use Rattle.std.specs.Prelude.{◌≡◌, ℕ, Bool, List, [], None, Some, Result, Ok, Err, codes, if◌then◌else◌, is_some}
use Rattle.std.specs.Str.{bytes_eq}
use Rattle.scenario_values.specs.Scenario.{Entries}
use Rattle.scenario_values.specs.Tidied.{tidied}
use Rattle.scenario_grammar.specs.FirstFault.{Fault, reading}
use Rattle.scenario_grammar.specs.declared.fault.ScenarioFault.TheVariants as scenario
use Rattle.target_trait.specs.Verdicts.{is_fail}
use Rattle.answer_text.specs.Hits.{points_of}
use Rattle.answer_text.specs.Runs.{known_of, reading_of}
use Rattle.answer_text.specs.declared.fault.AnswersFault.{AnswersFault}
use Rattle.answer_text.specs.declared.hits.Stretch.{Stretch}
use Rattle.answer_text.specs.declared.runs.RunLine.{RunLine}
use Rattle.answer_text.specs.declared.runs.ToldRun.{ToldRun}
use Rattle.report.specs.explained.ByAnswer.{answer_text}
use Rattle.campaign_given.specs.Description.{Description}
use Rattle.campaign_given.specs.Given.{Given}
use Rattle.campaign_core.specs.declared.ending.CampaignFault.TheVariants as campaign
use Rattle.outside_campaign.specs.Campaigns.{code_name}
use Rattle.outside_campaign.specs.declared.refusal.OutsideFault.TheVariants as refusal
use Rattle.outside_campaign.specs.declared.with_depth.fault.QuestionFault.{QuestionFault}
use Rattle.outside_campaign.specs.declared.with_depth.fault.QuestionFault.TheVariants as fault

-- The scenario that a text spells. `none` spells the one without entries.
abbrev pub spelled : List ℕ → Result Entries Fault
spelled text = if bytes_eq text (codes "none") then Ok [] else reading text

-- The runs that a text of answers records, or its first fault. With a depth each line has to record hits.
abbrev pub said : Description → Given → List ℕ → Result (List RunLine) AnswersFault
said outside given answers = reading_of (is_some given.depth) outside.codes outside.points answers

-- These are the lines of a run whose hits are recorded, and `found` says whether it fails.
pub record IsRunText (outside : Description) (s : Entries) (run : ToldRun) (lines : List ℕ) (found : Bool) : Type 0 where
  pub hits : List Stretch
  pub told : run.hits ≡ Some hits
  pub lines_are : lines ≡ answer_text outside.points (code_name outside.codes) s run.verdict (points_of hits)
  pub found_is : found ≡ is_fail run.verdict

-- The same for the recorded run of the scenario that a text spells, once it is tidied.
pub record IsExplainedText (text : List ℕ) (outside : Description) (given : Given) (answers lines : List ℕ) (found : Bool) : Type 0 where
  pub scenario : Entries
  pub spells : spelled text ≡ Ok scenario
  pub run : ToldRun
  pub told : known_of (said outside given answers) (tidied scenario) ≡ Some run
  pub shown : IsRunText outside scenario run lines found

-- The answers have no fault, and don't record the run of the scenario that the text spells. `s` is its tidied form.
pub record IsUntold (text : List ℕ) (outside : Description) (given : Given) (answers : List ℕ) (s : Entries) : Type 0 where
  pub scenario : Entries
  pub spells : spelled text ≡ Ok scenario
  pub untold : known_of (said outside given answers) (tidied scenario) ≡ None
  pub read : (lines : List RunLine) × (said outside given answers ≡ Ok lines)
  pub tidied_is : s ≡ tidied scenario

-- The run is recorded without its hits, in this line.
abbrev pub IsHidden : ToldRun → ℕ → Type 0
IsHidden run line = (run.hits ≡ None) × (line ≡ run.line)

-- Why a recorded run has no lines: its hits aren't recorded, or memory was refused.
abbrev pub IsHiddenFault : ToldRun → QuestionFault → Type 0
IsHiddenFault run (fault.Unseen line) = IsHidden run line
IsHiddenFault run (fault.Outside (refusal.Campaign campaign.Memory)) = Unit {0}
IsHiddenFault run _ = ⊥

-- The run of the scenario that the text spells is recorded without its hits, in this line.
pub record IsUnseen (text : List ℕ) (outside : Description) (given : Given) (answers : List ℕ) (line : ℕ) : Type 0 where
  pub scenario : Entries
  pub spells : spelled text ≡ Ok scenario
  pub run : ToldRun
  pub told : known_of (said outside given answers) (tidied scenario) ≡ Some run
  pub hidden : IsHidden run line

-- Why a run isn't explained: the text spells no scenario, the answers have a fault, or they don't record the run or its hits.
abbrev pub RefusesText : List ℕ → Description → Given → List ℕ → QuestionFault → Type 0
RefusesText text outside given answers (fault.Scenario scenario.Memory) = Unit {0}
RefusesText text outside given answers (fault.Scenario (scenario.Bad kind entry term)) = spelled text ≡ Err (record { kind = kind; entry = entry; term = term })
RefusesText text outside given answers (fault.Unseen line) = IsUnseen text outside given answers line
RefusesText text outside given answers (fault.Broken b) = ⊥
RefusesText text outside given answers (fault.Outside (refusal.Answers f)) = said outside given answers ≡ Err f
RefusesText text outside given answers (fault.Outside (refusal.Census line)) = ⊥
RefusesText text outside given answers (fault.Outside (refusal.NotAnswered s)) = IsUntold text outside given answers s
RefusesText text outside given answers (fault.Outside (refusal.Campaign campaign.TooManyPlans)) = ⊥
RefusesText text outside given answers (fault.Outside (refusal.Campaign campaign.Memory)) = Unit {0}
RefusesText text outside given answers (fault.Outside (refusal.Campaign (campaign.Write n))) = ⊥
