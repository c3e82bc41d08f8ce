use Rattle.grown_plans.proofs.AskedSites.{asks_like_parents}
use Rattle.grown_plans.proofs.laws.each_run_asks_like_its_parents.Goals as goal

pub returns : goal.returns
returns c = asks_like_parents
