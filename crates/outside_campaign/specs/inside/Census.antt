-- Why the hits of the run without faults are refused. Private contracts cite it.
use Rattle.answer_text.specs.Runs.{KnownRuns}
use Rattle.campaign_given.specs.Description.{Description}
use Rattle.campaign_core.specs.declared.ending.CampaignFault.TheVariants as campaign
use Rattle.outside_campaign.specs.Readable.{HasOtherCensus}
use Rattle.outside_campaign.specs.declared.refusal.OutsideFault.{OutsideFault}
use Rattle.outside_campaign.specs.declared.refusal.OutsideFault.TheVariants as refusal

-- This line records them with another census than the settings have, or memory was refused.
abbrev pub IsCensusFault : Description → KnownRuns → OutsideFault → Type 0
IsCensusFault outside known (refusal.Census line) = HasOtherCensus outside known line
IsCensusFault outside known (refusal.Campaign campaign.Memory) = Unit {0}
IsCensusFault outside known fault = ⊥
