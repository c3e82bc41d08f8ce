use Rattle.grown_plans.proofs.ListedKinds.{listed_can}
use Rattle.grown_plans.proofs.laws.listed_kinds_can_be_tried.Goals as goal

pub returns : goal.returns
returns c = listed_can
