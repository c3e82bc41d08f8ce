use Rattle.std.proofs.Common.{refl, rules}
use Rattle.grown_runs.proofs.Growing.{growth_none}
use Rattle.grown_runs.proofs.kept.Growth.none.Goals as goal

pub returns : goal.returns
returns c = λ t seed part plans first many. growth_none t seed part plans first _ (c.in_ok-none.ensures t seed part.purpose plans first many) (search rules) refl (search rules)
