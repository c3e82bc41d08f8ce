use Rattle.outside_campaign.proofs.WithDepthLemmas.KindLemmas.{kinds_can}
use Rattle.outside_campaign.proofs.with_depth.laws.kinds_of_settings_can_be_tried.Goals as goal

pub returns : goal.returns
returns c = kinds_can
