-- The fault of a campaign whose text of answers is refused.
use Rattle.answer_text.specs.declared.fault.AnswersFault.{AnswersFault}
use Rattle.answer_text.specs.declared.fault.AnswersFault.TheVariants as answers
use Rattle.campaign_core.specs.declared.ending.CampaignFault.TheVariants as campaign
use Rattle.outside_campaign.specs.declared.refusal.OutsideFault.{OutsideFault}
use Rattle.outside_campaign.specs.declared.refusal.OutsideFault.TheVariants as refusal

-- The campaign's fault for that of its text of answers: memory was refused, or the text has this fault.
abbrev pub answers_fault : AnswersFault → OutsideFault
answers_fault answers.Memory = refusal.Campaign campaign.Memory
answers_fault fault = refusal.Answers fault
