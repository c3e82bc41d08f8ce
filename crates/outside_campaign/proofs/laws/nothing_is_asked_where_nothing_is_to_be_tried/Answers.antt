use Rattle.std.proofs.Common.{ap}
use Rattle.answered_runs.specs.asked.Lines.{lines_for}
use Rattle.outside_campaign.proofs.Lines.{none_once}
use Rattle.outside_campaign.proofs.laws.nothing_is_asked_where_nothing_is_to_be_tried.Goals as goal

pub returns : goal.returns
returns c = λ scenarios. (none_once scenarios, λ none. ap lines_for none)
