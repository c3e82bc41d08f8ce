use Rattle.grown_runs.proofs.KnownLemmas.Walked.{walks_right}
use Rattle.grown_runs.proofs.known.laws.known_runs_tell_others.Goals as goal

pub returns : goal.returns
returns c = walks_right
