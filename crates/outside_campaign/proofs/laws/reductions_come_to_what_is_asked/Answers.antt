use Rattle.outside_campaign.proofs.Running.{comes_to}
use Rattle.outside_campaign.proofs.laws.reductions_come_to_what_is_asked.Goals as goal

pub returns : goal.returns
returns c = λ known code scenario component ok agrees. comes_to known code scenario ok component agrees
