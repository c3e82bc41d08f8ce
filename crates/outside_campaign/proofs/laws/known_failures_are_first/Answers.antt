use Rattle.outside_campaign.proofs.ResultLemmas.{failures_are_first}
use Rattle.outside_campaign.proofs.laws.known_failures_are_first.Goals as goal

pub returns : goal.returns
returns c = failures_are_first
