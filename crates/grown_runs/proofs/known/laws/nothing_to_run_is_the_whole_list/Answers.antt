use Rattle.grown_runs.proofs.KnownLemmas.Ends.{ends_whole}
use Rattle.grown_runs.proofs.known.laws.nothing_to_run_is_the_whole_list.Goals as goal

pub returns : goal.returns
returns c = ends_whole
