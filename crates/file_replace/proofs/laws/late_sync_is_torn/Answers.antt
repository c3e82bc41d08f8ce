use Rattle.file_replace.proofs.Flawed.{late_sync_is_torn, late_sync_leaves}
use Rattle.file_replace.proofs.laws.late_sync_is_torn.Goals as goal

pub returns : goal.returns
returns c = record { verdict = late_sync_is_torn; contents = late_sync_leaves }
