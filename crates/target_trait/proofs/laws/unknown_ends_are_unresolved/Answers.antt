use Rattle.target_trait.proofs.Verdicts.{unknown_unresolved}
use Rattle.target_trait.proofs.laws.unknown_ends_are_unresolved.Goals as goal

pub returns : goal.returns
returns c = unknown_unresolved
