use Rattle.std.proofs.Common.{rules}
use Rattle.grown_runs.proofs.Growing.{told_none}
use Rattle.grown_runs.proofs.outcomes.Outcomes.none.Goals as goal

pub returns : goal.returns
returns c = λ t seed purpose plans first many. told_none t seed purpose plans first c.args.points _ (search rules) (search rules) (search rules) many
