-- Runs that answers tell, explained.
use Rattle.std.proofs.Common.{◌≡◌, ℕ, List, Some, Ok}
use Rattle.scenario_values.specs.Scenario.{Entries}
use Rattle.scenario_values.specs.Tidied.{tidied}
use Rattle.answer_text.specs.Runs.{known_of}
use Rattle.answer_text.specs.declared.runs.ToldRun.{ToldRun}
use Rattle.campaign_given.specs.Description.{Description}
use Rattle.campaign_given.specs.Given.{Given}
use Rattle.campaign_core.specs.declared.ending.CampaignFault.TheVariants as campaign
use Rattle.outside_campaign.specs.declared.refusal.OutsideFault.TheVariants as refusal
use Rattle.outside_campaign.specs.with_depth.Explained.{IsHiddenFault, RefusesText, said, spelled}
use Rattle.outside_campaign.specs.declared.with_depth.fault.QuestionFault.{QuestionFault}
use Rattle.outside_campaign.specs.declared.with_depth.fault.QuestionFault.TheVariants as fault

module _ (text : List ℕ) (outside : Description) (given : Given) (told : List ℕ) where
  abbrev Refused : QuestionFault → Type 0
  Refused why = RefusesText text outside given told why

  -- of a run that is told
  module _ (s : Entries) (spells : spelled text ≡ Ok s) (run : ToldRun) (is : known_of (said outside given told) (tidied s) ≡ Some run) where
    pub hidden_why : (why : QuestionFault) → IsHiddenFault run why → Refused why
    hidden_why (fault.Unseen line) h = record { scenario = s; spells = spells; run = run; told = is; hidden = h }
    hidden_why (fault.Scenario f) h = absurd h
    hidden_why (fault.Broken b) h = absurd h
    hidden_why (fault.Outside (refusal.Answers f)) h = absurd h
    hidden_why (fault.Outside (refusal.Census line)) h = absurd h
    hidden_why (fault.Outside (refusal.NotAnswered t)) h = absurd h
    hidden_why (fault.Outside (refusal.Campaign campaign.TooManyPlans)) h = absurd h
    hidden_why (fault.Outside (refusal.Campaign campaign.Memory)) h = tt
    hidden_why (fault.Outside (refusal.Campaign (campaign.Write n))) h = absurd h
