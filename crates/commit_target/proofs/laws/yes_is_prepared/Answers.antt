use Rattle.commit_target.proofs.Voted.{yes_is_prepared}
use Rattle.commit_target.proofs.laws.yes_is_prepared.Goals as goal

pub returns : goal.returns
returns c = yes_is_prepared
