use Rattle.grown_runs.proofs.KnownLemmas.Seen.{ends_as_seen}
use Rattle.grown_runs.proofs.known.laws.nothing_is_skipped_as_far_as_seen.Goals as goal

pub returns : goal.returns
returns c = ends_as_seen
