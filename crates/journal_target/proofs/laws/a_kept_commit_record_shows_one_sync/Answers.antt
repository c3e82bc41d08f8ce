use Rattle.journal_target.proofs.Kept.{one_sync_commit_alone, one_sync_loses_all}
use Rattle.journal_target.proofs.laws.a_kept_commit_record_shows_one_sync.Goals as goal

pub returns : goal.returns
returns c = record { alone = one_sync_commit_alone; lost = one_sync_loses_all }
