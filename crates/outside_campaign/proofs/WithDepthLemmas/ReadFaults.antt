-- Why a question isn't answered, by what was read.
use Rattle.std.proofs.Common.{ℕ, List, Option, Some}
use Rattle.answered_runs.specs.Answered.{Answered}
use Rattle.campaign_given.specs.Description.{Description}
use Rattle.campaign_given.specs.Given.{Given}
use Rattle.campaign_core.specs.declared.ending.CampaignFault.TheVariants as campaign
use Rattle.outside_campaign.specs.declared.refusal.OutsideFault.TheVariants as refusal
use Rattle.outside_campaign.specs.with_depth.Questions.{RefusesAsks, Refuses, RefusesYet, Tells}
use Rattle.outside_campaign.specs.declared.with_depth.fault.QuestionFault.{QuestionFault}
use Rattle.outside_campaign.specs.declared.with_depth.fault.QuestionFault.TheVariants as fault

module _ (outside : Description) (text : List ℕ) where
  -- why nothing is asked
  pub asked_refused : (given : Given) (depth : ℕ) (a : Answered) → Tells outside text a → (why : QuestionFault) → RefusesAsks a depth given.plans why → RefusesYet (Some depth) outside given text why
  asked_refused given depth a tells (fault.Outside (refusal.Answers f)) h = absurd h
  asked_refused given depth a tells (fault.Outside (refusal.Campaign campaign.Memory)) h = tt
  asked_refused given depth a tells (fault.Outside (refusal.Campaign campaign.TooManyPlans)) h = (a, tells, h)
  asked_refused given depth a tells (fault.Outside (refusal.Campaign (campaign.Write n))) h = absurd h
  asked_refused given depth a tells (fault.Outside (refusal.NotAnswered t)) h = absurd h
  asked_refused given depth a tells (fault.Outside (refusal.Census line)) h = absurd h
  asked_refused given depth a tells (fault.Broken b) h = (a, tells, h)
  asked_refused given depth a tells (fault.Scenario f) h = absurd h
  asked_refused given depth a tells (fault.Unseen line) h = absurd h

  -- what refuses a text that waits for nothing refuses a report
  pub at_all : (depth : Option ℕ) (given : Given) (why : QuestionFault) → RefusesYet depth outside given text why → Refuses depth outside given text why
  at_all depth given (fault.Outside (refusal.Answers f)) h = h
  at_all depth given (fault.Outside (refusal.Campaign campaign.Memory)) h = h
  at_all depth given (fault.Outside (refusal.Campaign campaign.TooManyPlans)) h = h
  at_all depth given (fault.Outside (refusal.Campaign (campaign.Write n))) h = h
  at_all depth given (fault.Outside (refusal.NotAnswered t)) h = absurd h
  at_all depth given (fault.Outside (refusal.Census line)) h = h
  at_all depth given (fault.Broken b) h = h
  at_all depth given (fault.Scenario f) h = h
  at_all depth given (fault.Unseen line) h = h
