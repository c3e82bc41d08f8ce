use Rattle.file_replace.proofs.Flawed.{ignore_sync_is_stale, ignore_sync_leaves}
use Rattle.file_replace.proofs.laws.ignore_sync_is_stale.Goals as goal

pub returns : goal.returns
returns c = record { verdict = ignore_sync_is_stale; contents = ignore_sync_leaves }
