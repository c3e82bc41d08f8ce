use Rattle.grown_plans.proofs.Cases.{is_whole}
use Rattle.grown_plans.proofs.laws.an_empty_level_makes_it_whole.Goals as goal

pub returns : goal.returns
returns c = is_whole
