use Rattle.answered_runs.proofs.Known.{true_of}
use Rattle.answered_runs.proofs.laws.answers_tell_verdicts.Goals as goal

pub returns : goal.returns
returns c = true_of
