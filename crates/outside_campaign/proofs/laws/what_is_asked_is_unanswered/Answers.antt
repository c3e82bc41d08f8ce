use Rattle.outside_campaign.proofs.Open.{all_untried}
use Rattle.outside_campaign.proofs.laws.what_is_asked_is_unanswered.Goals as goal

pub returns : goal.returns
returns c = all_untried
