use Rattle.std.proofs.Common.{refl}
use Rattle.grown_plans.proofs.Grows.{starts}
use Rattle.grown_plans.proofs.grown_list.GrownLevels.first.Goals as goal

pub returns-clause-levels : goal.returns-clause-levels
returns-clause-levels c = λ level start. starts level _ c.new-sizes.result.items start c.new-plans.ensures refl c.new-sizes.ensures.items c.in_ok-push_size.ensures
