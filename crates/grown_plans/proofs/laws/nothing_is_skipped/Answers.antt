use Rattle.grown_plans.proofs.Cases.{skips_nothing}
use Rattle.grown_plans.proofs.laws.nothing_is_skipped.Goals as goal

pub returns : goal.returns
returns c = skips_nothing
