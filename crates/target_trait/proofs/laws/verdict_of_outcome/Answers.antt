use Rattle.target_trait.proofs.Verdicts.{verdict_is}
use Rattle.target_trait.proofs.laws.verdict_of_outcome.Goals as goal

pub returns : goal.returns
returns c = verdict_is
