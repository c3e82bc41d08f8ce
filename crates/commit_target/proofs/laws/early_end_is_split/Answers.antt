use Rattle.commit_target.proofs.Flawed.{early_end_is_split}
use Rattle.commit_target.proofs.laws.early_end_is_split.Goals as goal

pub returns : goal.returns
returns c = early_end_is_split
